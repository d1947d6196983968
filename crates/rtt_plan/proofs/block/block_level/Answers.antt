use Rattle.std.proofs.Common.{◌≡◌, ◌∙◌, sym, arith, refl}
use Rattle.rtt_plan.proofs.LargestBlocks.{first_fit-end, first_fit-here, first_fit-next}
use Rattle.rtt_plan.proofs.block.block_level.Goals as goal

pub returns-then-fits-clause-value : goal.returns-then-fits-clause-value
returns-then-fits-clause-value c =
    sym (first_fit-here _ _ _ _ c.loop-level-test.true (sym c.fits.ensures ∙ c.if-fits.true)) ∙ c.loop-level.invariant

pub loop-level-preserved : goal.loop-level-preserved
loop-level-preserved c =
    sym (first_fit-next _ _ _ _ c.loop-level-test.true (sym c.fits.ensures ∙ c.if-fits.false)) ∙ c.loop-level.invariant

pub returns-clause-value : goal.returns-clause-value
returns-clause-value c =
    let last : c.loop-level.level ≡ 3 = omega arith in
    sym (first_fit-end _ _ _ _ last) ∙ c.loop-level.invariant

pub loop-level-init : goal.loop-level-init
loop-level-init c = refl

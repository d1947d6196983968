use Rattle.std.proofs.Common.{◌≡◌, ◌+◌, ◌/◌, ◌≤◌, arith, ◌∙◌, sym, None}
use Rattle.std.specs.List.{find}
use Rattle.ipa_layout.specs.Memory.{holds}
use Rattle.ipa_layout.proofs.PagesHeldByRegions.{held-end, held-jump, held-stop, holder-behind}
use Rattle.ipa_layout.proofs.memory.first_unheld.Goals as goal

pub returns-in_default : goal.returns-in_default
returns-in_default c =
    let none : find (holds c.loop-page.page) c.args.ram.now ≡ None = sym c.in_default.ensures in
    sym (held-stop _ _ _ none c.loop-page-test.true) ∙ c.loop-page.invariant

pub loop-page-smaller : goal.loop-page-smaller
loop-page-smaller c =
    let behind : c.loop-page.page + 1 ≤ c.in-Some.region.end / 4096 = holder-behind _ _ _ (sym c.in-Some.ensures) in
    omega arith

pub loop-page-preserved : goal.loop-page-preserved
loop-page-preserved c = held-jump _ _ c.args.end c.min-page.result c.in-Some.region (sym c.in-Some.ensures) c.loop-page-test.true (omega arith) ∙ c.loop-page.invariant

pub returns : goal.returns
returns c = sym (held-end c.args.ram.now _ c.args.end (omega arith)) ∙ c.loop-page.invariant

use Rattle.std.proofs.Common.{◌≡◌, ◌+◌, ◌*◌, ◌∙◌, ◌∷◌, [], ◌++◌, refl, sym, ap, arith}
use Rattle.std.proofs.lemmas.List.{length-set, take_more_set}
use Rattle.rmm_model.specs.Blocks.{granules}
use Rattle.rmm_model.proofs.GranulesInARow.{granules-last}
use Rattle.list_model.specs.Entries.{granule}
use Rattle.rmi_list.proofs.plan.granules_at.Goals as goal

pub loop-index-init : goal.loop-index-init
unfolding granules
loop-index-init c = (refl, refl)

pub loop-index-preserved : goal.loop-index-preserved
loop-index-preserved c =
    let i = c.loop-index.index in
    let old = c.loop-index.invariant in
    let e : granule c.args.pool (c.args.first + i) ≡ granule c.args.pool c.args.first + 4096 * i = omega arith in (
      length-set c.loop-index.granules i c.granule_at.result ∙ old.0,
      take_more_set c.loop-index.granules i c.granule_at.result (omega (arith, old.0))
          ∙ ap (λ xs. xs ++ c.granule_at.result ∷ []) old.1
          ∙ ap (λ g. granules i (granule c.args.pool c.args.first) ++ g ∷ []) (c.granule_at.ensures ∙ e)
          ∙ sym (granules-last i (granule c.args.pool c.args.first)),
    )

pub returns : goal.returns
returns c = (let e : c.args.count ≡ c.loop-index.index = omega arith in rw e c.loop-index.invariant.1)

use Rattle.std.proofs.Common.{◌≡◌, ◌∙◌, ap, sym}
use Rattle.std.specs.Prelude.{Some, is_some}
use Rattle.rmm_model.specs.Owners.{give}
use Rattle.rmm_model.specs.declared.outcome.Kind.TheVariants.{Delegated}
use Rattle.std.proofs.lemmas.Map.Steps.{set_value_same}
use Rattle.rmm_monitor.proofs.GivenBack.{put_back, set_value_put}
use Rattle.rmm_monitor.proofs.owners.Owners.take.Goals.{in-Delegated, in_default-matches}
use Rattle.rmm_monitor.proofs.owners.Owners.take.Goals as goal

pub returns-then-not-matches-clause-kept : goal.returns-then-not-matches-clause-kept
returns-then-not-matches-clause-kept c =
    let es = c.self.inside.by_granule.entries in
    let written = c.get_mut.follows.holds c.in-Some.found.now in
    λ _. written.0 ∙ set_value_same _ es c.in-Some.found.now (sym c.in-Some.ensures.value) ∙ c.self.view_is

pub returns-clause-taken : goal.returns-clause-taken
returns-clause-taken c =
    let es = c.self.inside.by_granule.entries in
    let written = c.get_mut.follows.holds c.args.kind in
    let put = set_value_put c.args.granule es c.args.kind c.in-Some.ensures.ordered (ap is_some (sym c.in-Some.ensures.value)) in
    λ _. written.0 ∙ put ∙ ap (λ owners. give owners c.args.granule c.args.kind) c.self.view_is

pub returns-clause-back : goal.returns-clause-back
returns-clause-back c =
    let es = c.self.inside.by_granule.entries in
    let written = c.get_mut.follows.holds c.args.kind in
    let put = set_value_put c.args.granule es c.args.kind c.in-Some.ensures.ordered (ap is_some (sym c.in-Some.ensures.value)) in
    let delegated : c.in-Some.found.now ≡ Delegated = elim c.match-matches.branch [ in-Delegated w ↦ w.in-Delegated.is | in_default-matches w ↦ (let no = w.matches-is in let yes = c.if-not-matches.false in absurd (cc)) ] in
    let again = put_back c.args.granule es Delegated c.args.kind c.in-Some.ensures.ordered (sym c.in-Some.ensures.value ∙ ap Some delegated) in
    λ _. ap (λ owners. give owners c.args.granule Delegated) (written.0 ∙ put) ∙ again ∙ c.self.view_is

use Rattle.std.proofs.Common.{◌≡◌, ◌∙◌, Some, ap, option_map, subst}
use Rattle.std.specs.Prelude.{option_and_then}
use Rattle.std.specs.List.{slice_get}
use Rattle.std.specs.Result.{result_ok}
use Rattle.ipa_layout.specs.Layout.{places}
use Rattle.rim_accepted.specs.Outcomes.{OutcomesView, place_in}
use Rattle.rim_accepted.proofs.OutcomesInTurn.{place-at}
use Rattle.rim_accepted.proofs.release.AcceptedRelease.place.Goals as goal

pub returns : goal.returns
returns c = λ l here.
    subst (λ (v : OutcomesView). slice_get v.release.launches c.args.number ≡ Some l
    → option_map (λ p. p.now) c.place_at.result ≡ result_ok (places l.launch v.files)) c.self.view_is
    (λ own. c.place_at.ensures
    ∙ ap (λ rs. option_and_then place_in (slice_get rs c.args.number)) c.deref.ensures.value
    ∙ place-at _ _ _ c.args.number l c.self.invariant.2 own) here

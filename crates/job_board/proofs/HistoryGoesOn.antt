-- A history goes on by each event that a step accepts, and has room for it.
use Rattle.std.proofs.Common.{◌≡◌, ℕ, ◌<◌, Bool, true, false, ◌&&◌, List, [], ◌∷◌, ◌++◌, length, Ok, refl, sym, ap, ◌∙◌, subst, arith}
use Rattle.std.proofs.lemmas.List.{length-replicate, length_push}
use Rattle.job_core.specs.declared.job.JobState.TheVariants.{Free}
use Rattle.job_core.specs.declared.job.Event.{Event}
use Rattle.job_core.specs.Jobs.{CoreState, opening}
use Rattle.job_core.specs.Step.{core_step}
use Rattle.job_core.specs.Events.{is_accepted, is_legal, next_state, replay}
use Rattle.job_board.specs.History.{IsHistory, most_events, opening_of}
use Rattle.job_core.proofs.LegalLists.{few_events, legal_parts, size_run}
use Rattle.job_core.proofs.WhatStepsChange as kept

-- one event more at the end
pub replay-push : (s : CoreState) (es : List Event) (e : Event) → replay s (es ++ e ∷ []) ≡ next_state (replay s es) e
replay-push s [] e = refl
replay-push s (x ∷ es) e = replay-push (next_state s x) es e

both_true : (a b : Bool) → a ≡ true → b ≡ true → (a && b) ≡ true
both_true a b p q = ap (λ (x : Bool). x && b) p ∙ q

pub is_legal-push : (s : CoreState) (es : List Event) (e : Event) → is_legal s es ≡ true → is_accepted (replay s es) e ≡ true → is_legal s (es ++ e ∷ []) ≡ true
is_legal-push s [] e h ok = both_true _ _ ok refl
is_legal-push s (x ∷ es) e h ok =
    let p = legal_parts s x es h in
    both_true _ _ p.0 (is_legal-push (next_state s x) es e p.1 ok)

same_opening : (s t : CoreState) (e : Event) → core_step s e ≡ Ok t → opening_of s ≡ opening_of t
same_opening s t e is =
    ap (λ n. opening n (length s.pages) s.needs) (sym (kept.workers s t e is))
    ∙ (ap (λ n. opening (length t.retired) n s.needs) (sym (kept.pages s t e is)) ∙ ap (λ ns. opening (length t.retired) (length t.pages) ns) (sym (kept.needs s t e is)))

pub history_push : (s t : CoreState) (es : List Event) (e : Event) → IsHistory s es → core_step s e ≡ Ok t → IsHistory t (es ++ e ∷ [])
history_push s t es e h is =
    let ok = kept.accepted s t e is in
    let next = kept.next_is s t e is in
    let same = same_opening s t e is in
    let at : is_accepted (replay (opening_of s) es) e ≡ true = subst (λ (u : CoreState). is_accepted u e ≡ true) h.replayed ok in
    let legal = is_legal-push (opening_of s) es e h.legal at in
    let end : replay (opening_of s) (es ++ e ∷ []) ≡ t = replay-push (opening_of s) es e ∙ (ap (λ (u : CoreState). next_state u e) (sym h.replayed) ∙ next) in
    record {
      replayed = sym (subst (λ (u : CoreState). replay u (es ++ e ∷ []) ≡ t) same end);
      legal = subst (λ (u : CoreState). is_legal u (es ++ e ∷ []) ≡ true) same legal;
    }

pub history_empty : (workers pages : ℕ) (needs : List (List ℕ)) → IsHistory (opening workers pages needs) []
history_empty workers pages needs =
    let s = opening workers pages needs in
    let same : opening workers pages needs ≡ opening_of s =
    ap (λ n. opening n pages needs) (sym (length-replicate workers false)) ∙ ap (λ n. opening (length s.retired) n needs) (sym (length-replicate pages Free)) in
    record { replayed = same; legal = refl }

launches_are : (s : CoreState) (es : List Event) → IsHistory s es → length s.launches ≡ length s.needs
launches_are s es h =
    let size = size_run (opening_of s) es h.legal in
    ap (λ (u : CoreState). length u.launches) h.replayed ∙ (size.launches ∙ length-replicate (length s.needs) Free)

pub history_room : (s t : CoreState) (es : List Event) (e : Event) → IsHistory s es → core_step s e ≡ Ok t → length es < most_events s
history_room s t es e h is =
    let n = history_push s t es e h is in
    let few = few_events (length t.retired) (length t.pages) t.needs (es ++ e ∷ []) n.legal in
    let launches = launches_are t (es ++ e ∷ []) n in
    omega (arith, few, launches, kept.workers s t e is, kept.pages s t e is, kept.launches s t e is, length_push es e)

-- the bound stays
pub same_most : (s t : CoreState) (e : Event) → core_step s e ≡ Ok t → most_events t ≡ most_events s
same_most s t e is = omega (arith, kept.workers s t e is, kept.pages s t e is, kept.launches s t e is)

-- The measurement is made of exactly the parts that commands show.
use Rattle.std.proofs.Common.{inl, inr, ◌≡◌, ◌∙◌, ℕ, sym, refl, ap, subst, true, false, List, [], ◌∷◌, ◌++◌, ◌⊎◌}
use Rattle.std.specs.Prelude.{Option, Some, None, Result, Ok, Err}
use Rattle.std.proofs.lemmas.Option.{same_Some}
use Rattle.rim_desc.proofs.PieceByPiece.{extended_by-append}
use Rattle.rim_desc.specs.declared.command.Command.{Command}
use Rattle.rim_desc.specs.declared.command.Command.TheVariants.{Delegate, RealmCreate, RttCreate, InitRipas, DataCreate, DataCreateUnknown, RecCreate, Activate}
use Rattle.rim_desc.specs.declared.realm.RealmParams.{RealmParams}
use Rattle.rim_desc.specs.declared.rule.RecRule.{RecRule}
use Rattle.rim_desc.specs.Part.{Part, extended_by, rim_of}
use Rattle.rmm_model.specs.declared.outcome.Refused.{Refused}
use Rattle.rmm_model.specs.declared.outcome.Refused.TheVariants as refusal
use Rattle.rmm_model.specs.State.{State, algo_of, empty_state, is_empty, is_new, measured_so_far}
use Rattle.rmm_model.specs.declared.outcome.Phase.TheVariants.{Empty, New, Active}
use Rattle.rmm_model.specs.Checks.{checks}
use Rattle.rmm_model.specs.Effects.{changed, measured, parts}
use Rattle.rmm_model.specs.Step.{step}
use Rattle.rmm_model.specs.Run.{after, parts_of, run, shown}
use Rattle.rmm_model.proofs.AnswersOfChecks.{done-or-refused}

-- ---- one step

-- a command is taken with its effects and its parts, or refused
pub step-cases : (s : State) (c : Command) → (step s c ≡ Ok (measured (changed s c) (parts s c))) ⊎ ((e : Refused) × (step s c ≡ Err e))
step-cases s c = done-or-refused (checks s c) (measured (changed s c) (parts s c))

measured-phase : (s : State) (ps : List Part) → (measured s ps).phase ≡ s.phase
measured-phase s [] = refl
measured-phase s (part ∷ ps) = refl

measured-params : (s : State) (ps : List Part) → (measured s ps).params ≡ s.params
measured-params s [] = refl
measured-params s (part ∷ ps) = refl

measured-rim : (s : State) (ps : List Part) (p : RealmParams) (rim : List ℕ) → s.params ≡ Some p → s.rim ≡ Some rim
    → (measured s ps).rim ≡ Some (extended_by p.algo rim ps)
measured-rim s [] p rim params at = at
measured-rim s (part ∷ ps) p rim params at =
    ap (λ q. Some (extended_by (algo_of q) (measured_so_far s.rim) (part ∷ ps))) params
    ∙ ap (λ r. Some (extended_by p.algo (measured_so_far r) (part ∷ ps))) at

-- ---- a realm

-- it has parameters and a measurement
record IsRealm (s : State) (p : RealmParams) (rim : List ℕ) : Type 0 where
  phase : is_empty s.phase ≡ false
  params : s.params ≡ Some p
  at : s.rim ≡ Some rim

-- what a command other than its creation changes, leaves a realm
changed-realm : (s : State) (c : Command) (p : RealmParams) (rim : List ℕ) → IsRealm s p rim
    → IsRealm (changed s c) p rim ⊎ ((e : Refused) × (step s c ≡ Err e))
changed-realm s (Delegate granule) p rim h = inl (record { phase = h.phase; params = h.params; at = h.at })
changed-realm s (RealmCreate rd params) p rim h = inr (refusal.State, rw h.phase refl)
changed-realm s (RttCreate rtt ipa level) p rim h = inl (record { phase = h.phase; params = h.params; at = h.at })
changed-realm s (InitRipas base top) p rim h = inl (record { phase = h.phase; params = h.params; at = h.at })
changed-realm s (DataCreate granule ipa content) p rim h = inl (record { phase = h.phase; params = h.params; at = h.at })
changed-realm s (DataCreateUnknown granule ipa) p rim h = inl (record { phase = h.phase; params = h.params; at = h.at })
changed-realm s (RecCreate rec params) p rim h = inl (record { phase = h.phase; params = h.params; at = h.at })
changed-realm s Activate p rim h = inl (record { phase = refl; params = h.params; at = h.at })

-- what a list of commands does to a realm
realm-run : (cs : List Command) (s : State) (p : RealmParams) (rim : List ℕ) → IsRealm s p rim
    → IsRealm (run s cs) p (extended_by p.algo rim (shown s cs))
unfolding run shown
realm-run [] s p rim h = h
realm-run (c ∷ cs) s p rim h =
    let next : State = measured (changed s c) (parts s c) in
    let refused : (e : Refused) → step s c ≡ Err e → IsRealm (run s (c ∷ cs)) p (extended_by p.algo rim (shown s (c ∷ cs))) =
    λ e at. rw at (realm-run cs s p rim h) in
    elim (step-cases s c) [
      | inr e ↦ refused e.0 e.1
      | inl at ↦ elim (changed-realm s c p rim h) [
        | inr e ↦ refused e.0 e.1
        | inl kept ↦
            let one : IsRealm next p (extended_by p.algo rim (parts s c)) = record {
              phase = rw (measured-phase (changed s c) (parts s c)) kept.phase;
              params = measured-params (changed s c) (parts s c) ∙ kept.params;
              at = measured-rim (changed s c) (parts s c) p rim kept.params kept.at;
            } in
            rw (at, extended_by-append p.algo rim (parts s c) (shown next cs)) (realm-run cs next p (extended_by p.algo rim (parts s c)) one)
      ]
    ]

-- ---- before a realm is created

record IsBare (s : State) : Type 0 where
  phase : is_empty s.phase ≡ true
  params : s.params ≡ None
  rim : s.rim ≡ None

-- a command leaves it so, and measures nothing; or it creates a realm, and measures its page alone; or it is refused
data Started (s : State) (c : Command) : Type 0 where
  Waits : IsBare (changed s c) → parts s c ≡ [] → Started s c
  Begins : (p : RealmParams) → (rim : List ℕ) → ((ps : List Part) → rim_of p.algo (parts s c ++ ps) ≡ extended_by p.algo rim ps)
      → IsRealm (measured (changed s c) (parts s c)) p rim → Started s c
  IsRefused : (e : Refused) → step s c ≡ Err e → Started s c

new-not : (s : State) → is_empty s.phase ≡ true → is_new s.phase ≡ false
new-not s h = elim s.phase as (λ x. is_empty x ≡ true → is_new x ≡ false) [ Empty ↦ (λ _. refl) | New ↦ (λ g. absurd (cc)) | Active ↦ (λ g. absurd (cc)) ] h

started : (s : State) (c : Command) → IsBare s → Started s c
started s (Delegate granule) h = Waits (record { phase = h.phase; params = h.params; rim = h.rim }) refl
started s (RealmCreate rd p) h = Begins p _ (λ ps. refl) (record { phase = refl; params = refl; at = refl })
started s (RttCreate rtt ipa level) h = IsRefused refusal.State (rw h.phase refl)
started s (InitRipas base top) h = IsRefused refusal.State (rw (new-not s h.phase) refl)
started s (DataCreate granule ipa content) h = IsRefused refusal.State (rw (new-not s h.phase) refl)
started s (DataCreateUnknown granule ipa) h = IsRefused refusal.State (rw h.phase refl)
started s (RecCreate rec params) h = IsRefused refusal.State (rw (new-not s h.phase) refl)
started s Activate h = IsRefused refusal.State (rw (new-not s h.phase) refl)

bare-run : (cs : List Command) (s : State) (p : RealmParams) → IsBare s
    → (run s cs).params ≡ Some p → (run s cs).rim ≡ Some (rim_of p.algo (shown s cs))
unfolding run shown
bare-run [] s p h = λ at. (let none : s.params ≡ None = h.params in absurd (cc))
bare-run (c ∷ cs) s p h =
    let Claim : Result State Refused → Type 0 = λ r. (run (after s r) cs).params ≡ Some p → (run (after s r) cs).rim ≡ Some (rim_of p.algo (parts_of r (parts s c) ++ shown (after s r) cs)) in
    let next : State = measured (changed s c) (parts s c) in
    let refused : (e : Refused) → step s c ≡ Err e → Claim (step s c) = λ e at. subst Claim (sym at) (bare-run cs s p h) in
    let waits : IsBare (changed s c) → parts s c ≡ [] → step s c ≡ Ok next → Claim (step s c) =
    λ bare none at. subst Claim (sym at) (rw none (bare-run cs (changed s c) p bare)) in
    let begins : (q : RealmParams) (rim : List ℕ) → ((ps : List Part) → rim_of q.algo (parts s c ++ ps) ≡ extended_by q.algo rim ps)
    → IsRealm next q rim → step s c ≡ Ok next → Claim (step s c) =
    λ q rim starts realm at.
    (let all : IsRealm (run next cs) q (extended_by q.algo rim (shown next cs)) = realm-run cs next q rim realm in
    subst Claim (sym at) (λ params.
    (let same : q ≡ p = same_Some q p (sym all.params ∙ params) in
    all.at ∙ ap (λ m. Some m) (sym (starts (shown next cs))) ∙ ap (λ (r : RealmParams). Some (rim_of r.algo (parts s c ++ shown next cs))) same))) in
    elim (started s c h) [
      | IsRefused e at ↦ refused e at
      | Waits bare none ↦ elim (step-cases s c) [ inl at ↦ waits bare none at | inr e ↦ refused e.0 e.1 ]
      | Begins q rim starts realm ↦ elim (step-cases s c) [ inl at ↦ begins q rim starts realm at | inr e ↦ refused e.0 e.1 ]
    ]

-- from the empty state on
pub rim-run : (num_aux : ℕ) (rule : Option RecRule) (cs : List Command) (p : RealmParams) → (run (empty_state num_aux rule) cs).params ≡ Some p
    → (run (empty_state num_aux rule) cs).rim ≡ Some (rim_of p.algo (shown (empty_state num_aux rule) cs))
rim-run num_aux rule cs p at = bare-run cs (empty_state num_aux rule) p (record { phase = refl; params = refl; rim = refl }) at

-- No granule is taken twice.
use Rattle.std.proofs.Common.{inl, inr, ◌≡◌, ℕ, ◌∙◌, sym, refl, subst, arith, Bool, true, false, not, ◌&&◌, ◌||◌, eqb, List, [], ◌∷◌, ◌++◌, ◌⊎◌}
use Rattle.std.specs.Prelude.{Option, Some, None, Result, Ok, Err, is_ok, is_some}
use Rattle.std.proofs.lemmas.Bool.Decides.{nat_tests}
use Rattle.rim_desc.specs.declared.command.Command.{Command}
use Rattle.rim_desc.specs.declared.command.Command.TheVariants.{Delegate, RealmCreate, RttCreate, InitRipas, DataCreate, DataCreateUnknown, RecCreate, Activate}
use Rattle.rim_desc.specs.Part.{Part}
use Rattle.rmm_model.specs.declared.outcome.Kind.{Kind}
use Rattle.rmm_model.specs.declared.outcome.Kind.TheVariants.{Delegated, Rd, Rtt, DataPage, Rec, RecAux}
use Rattle.rmm_model.specs.declared.outcome.Refused.{Refused}
use Rattle.rmm_model.specs.declared.outcome.Refused.TheVariants as refusal
use Rattle.rmm_model.specs.Space.{has}
use Rattle.rmm_model.specs.Owners.{all_delegated, give, give_all, is_delegated, is_delegated_kind, kind_of, repeats}
use Rattle.rmm_model.specs.State.{State}
use Rattle.rmm_model.specs.Checks.{checks, start_tables}
use Rattle.rmm_model.specs.Effects.{changed, measured, parts}
use Rattle.rmm_model.specs.Step.{step}
use Rattle.rmm_model.specs.Run.{accepted, after, taken, taken_by}
use Rattle.rmm_model.proofs.AppendedSpaces.{has-append}
use Rattle.rmm_model.proofs.GranulesInARow.{repeats-granules}
use Rattle.rmm_model.proofs.KindsAfterGifts.{kind_of-here, kind_of-other}
use Rattle.rmm_model.proofs.AnswersOfChecks.{holds, none-holds, off-at}
use Rattle.rmm_model.proofs.RimOfShownParts.{step-cases}
use Rattle.std.proofs.lemmas.Bool.{and_parts, cases_Bool, eqb-true, not-false, or_parts}

-- ---- granules in use: those with a kind other than DELEGATED

is_used_kind : Option Kind → Bool
is_used_kind None = false
is_used_kind (Some Delegated) = false
is_used_kind (Some Rd) = true
is_used_kind (Some Rtt) = true
is_used_kind (Some DataPage) = true
is_used_kind (Some Rec) = true
is_used_kind (Some RecAux) = true

abbrev used : List (ℕ × Kind) → ℕ → Bool
used owners g = is_used_kind (kind_of owners g)

used-here : (owners : List (ℕ × Kind)) (g : ℕ) (kind : Kind) → is_used_kind (Some kind) ≡ true → used (give owners g kind) g ≡ true
used-here owners g kind one = rw (kind_of-here owners g kind) one

used-give : (owners : List (ℕ × Kind)) (g h : ℕ) (kind : Kind) → is_used_kind (Some kind) ≡ true → used owners h ≡ true → used (give owners g kind) h ≡ true
used-give owners g h kind one old = elim (cases_Bool (eqb h g)) [
  | inl e ↦ (let same : h ≡ g = eqb-true h g e in rw same (used-here owners g kind one))
  | inr n ↦ rw (kind_of-other owners g h kind (λ e. (let t : eqb h g ≡ true = grind (arith, nat_tests) in absurd (cc)))) old
]

used-give_all : (gs : List ℕ) (owners : List (ℕ × Kind)) (h : ℕ) (kind : Kind) → is_used_kind (Some kind) ≡ true → used owners h ≡ true → used (give_all owners gs kind) h ≡ true
unfolding give_all
used-give_all [] owners h kind one old = old
used-give_all (g ∷ gs) owners h kind one old = used-give_all gs (give owners g kind) h kind one (used-give owners g h kind one old)

used-in_all : (gs : List ℕ) (owners : List (ℕ × Kind)) (h : ℕ) (kind : Kind) → is_used_kind (Some kind) ≡ true → has gs h ≡ true → used (give_all owners gs kind) h ≡ true
unfolding give_all
used-in_all [] owners h kind one = λ there. absurd (cc)
used-in_all (g ∷ gs) owners h kind one = elim (cases_Bool (eqb g h)) [
  | inl e ↦ (λ there. (let same : g ≡ h = eqb-true g h e in used-give_all gs (give owners g kind) h kind one (rw same (used-here owners h kind one))))
  | inr n ↦ rw n (λ there. used-in_all gs (give owners g kind) h kind one there)
]

-- a granule that is given DELEGATED had no kind, so none in use is changed
used-delegate : (owners : List (ℕ × Kind)) (g h : ℕ) → kind_of owners g ≡ None → used owners h ≡ true → used (give owners g Delegated) h ≡ true
unfolding is_used_kind
used-delegate owners g h free old = elim (cases_Bool (eqb h g)) [
  | inl e ↦ (let same : h ≡ g = eqb-true h g e in absurd (let none : used owners h ≡ false = rw (same, free) refl in cc))
  | inr n ↦ rw (kind_of-other owners g h Delegated (λ e. (let t : eqb h g ≡ true = grind (arith, nat_tests) in absurd (cc)))) old
]

unused-delegated : (kind : Option Kind) → is_delegated_kind kind ≡ true → is_used_kind kind ≡ false
unfolding is_used_kind
unused-delegated None h = refl
unused-delegated (Some Delegated) h = refl
unused-delegated (Some Rd) h = absurd (cc)
unused-delegated (Some Rtt) h = absurd (cc)
unused-delegated (Some DataPage) h = absurd (cc)
unused-delegated (Some Rec) h = absurd (cc)
unused-delegated (Some RecAux) h = absurd (cc)

unused-in_all : (gs : List ℕ) (owners : List (ℕ × Kind)) (h : ℕ) → all_delegated owners gs ≡ true → has gs h ≡ true → used owners h ≡ false
unused-in_all [] owners h own = λ there. absurd (cc)
unused-in_all (g ∷ gs) owners h own =
    let parts = and_parts (is_delegated owners g) (all_delegated owners gs) own in
    elim (cases_Bool (eqb g h)) [
      | inl e ↦ (λ there. (let same : g ≡ h = eqb-true g h e in rw (← same) (unused-delegated (kind_of owners g) parts.0)))
      | inr n ↦ rw n (λ there. unused-in_all gs owners h parts.1 there)
    ]

-- ---- lists without repeats

repeats-append : (xs ys : List ℕ) → repeats xs ≡ false → repeats ys ≡ false → ((h : ℕ) → has xs h ≡ true → has ys h ≡ false) → repeats (xs ++ ys) ≡ false
repeats-append [] ys first second apart = second
repeats-append (x ∷ xs) ys first second apart =
    let parts = or_parts (has xs x) (repeats xs) first in
    let here : has ys x ≡ false = apart x (grind (arith, nat_tests)) in
    let others : repeats (xs ++ ys) ≡ false = repeats-append xs ys parts.1 second (λ h there. apart h (grind (arith, nat_tests))) in
    rw (has-append xs ys x, parts.0, here, others) refl

-- ---- what a command that no check refuses takes

record Takes (s : State) (c : Command) : Type 0 where
  -- what is in use stays in use
  keeps : (h : ℕ) → used s.owners h ≡ true → used (changed s c).owners h ≡ true
  -- what it takes comes into use, and was not
  uses : (h : ℕ) → has (taken_by c) h ≡ true → used (changed s c).owners h ≡ true
  free : (h : ℕ) → has (taken_by c) h ≡ true → used s.owners h ≡ false
  apart : repeats (taken_by c) ≡ false

no-some : {A : Type 0} (o : Option A) → is_some o ≡ false → o ≡ None
no-some None h = refl
no-some (Some a) h = absurd (cc)

-- one granule, which was DELEGATED
one : (owners : List (ℕ × Kind)) (g h : ℕ) → has (g ∷ []) h ≡ true → g ≡ h
one owners g h there = eqb-true g h (grind (arith, nat_tests))

takes : (s : State) (c : Command) → holds (checks s c) ≡ false → Takes s c
unfolding is_used_kind
takes s (Delegate granule) off =
    let free : kind_of s.owners granule ≡ None = no-some (kind_of s.owners granule) (off-at (checks s (Delegate granule)) 1 refusal.State off) in
    record {
      keeps = λ h old. used-delegate s.owners granule h free old;
      uses = λ h there. absurd (cc);
      free = λ h there. absurd (cc);
      apart = refl;
    }
takes s (RttCreate rtt ipa level) off =
    let own : is_delegated s.owners rtt ≡ true = not-false (is_delegated s.owners rtt) (off-at (checks s (RttCreate rtt ipa level)) 5 refusal.State off) in
    record {
      keeps = λ h old. used-give s.owners rtt h Rtt refl old;
      uses = λ h there. rw (← one s.owners rtt h there) (used-here s.owners rtt Rtt refl);
      free = λ h there. rw (← one s.owners rtt h there) (unused-delegated (kind_of s.owners rtt) own);
      apart = refl;
    }
takes s (InitRipas base top) off = record {
  keeps = λ h old. old;
  uses = λ h there. absurd (cc);
  free = λ h there. absurd (cc);
  apart = refl;
}
takes s (DataCreate granule ipa content) off =
    let own : is_delegated s.owners granule ≡ true = not-false (is_delegated s.owners granule) (off-at (checks s (DataCreate granule ipa content)) 7 refusal.State off) in
    record {
      keeps = λ h old. used-give s.owners granule h DataPage refl old;
      uses = λ h there. rw (← one s.owners granule h there) (used-here s.owners granule DataPage refl);
      free = λ h there. rw (← one s.owners granule h there) (unused-delegated (kind_of s.owners granule) own);
      apart = refl;
    }
takes s (DataCreateUnknown granule ipa) off =
    let own : is_delegated s.owners granule ≡ true = not-false (is_delegated s.owners granule) (off-at (checks s (DataCreateUnknown granule ipa)) 6 refusal.State off) in
    record {
      keeps = λ h old. used-give s.owners granule h DataPage refl old;
      uses = λ h there. rw (← one s.owners granule h there) (used-here s.owners granule DataPage refl);
      free = λ h there. rw (← one s.owners granule h there) (unused-delegated (kind_of s.owners granule) own);
      apart = refl;
    }
takes s Activate off = record {
  keeps = λ h old. old;
  uses = λ h there. absurd (cc);
  free = λ h there. absurd (cc);
  apart = refl;
}
takes s (RecCreate rec r) off =
    let last = or_parts (not (all_delegated s.owners (rec ∷ r.aux))) (repeats (rec ∷ r.aux)) (off-at (checks s (RecCreate rec r)) 5 refusal.State off) in
    let own : all_delegated s.owners (rec ∷ r.aux) ≡ true = not-false (all_delegated s.owners (rec ∷ r.aux)) last.0 in
    record {
      keeps = λ h old. used-give_all r.aux (give s.owners rec Rec) h RecAux refl (used-give s.owners rec h Rec refl old);
      uses = λ h. used-first rec r.aux s.owners h;
      free = λ h there. unused-in_all (rec ∷ r.aux) s.owners h own there;
      apart = last.1;
    }
  where
    used-first : (g : ℕ) (gs : List ℕ) (owners : List (ℕ × Kind)) (h : ℕ) → has (g ∷ gs) h ≡ true → used (give_all (give owners g Rec) gs RecAux) h ≡ true
    used-first g gs owners h = elim (cases_Bool (eqb g h)) [
      | inl e ↦ (λ there. (let same : g ≡ h = eqb-true g h e in rw same (used-give_all gs (give owners h Rec) h RecAux refl (used-here owners h Rec refl))))
      | inr n ↦ rw n (λ there. used-in_all gs (give owners g Rec) h RecAux refl there)
    ]
takes s (RealmCreate rd p) off =
    let tables : List ℕ = start_tables p in
    let last = or_parts (not (is_delegated s.owners rd) || not (all_delegated s.owners tables)) (has tables rd) (off-at (checks s (RealmCreate rd p)) 3 refusal.State off) in
    let owns = or_parts (not (is_delegated s.owners rd)) (not (all_delegated s.owners tables)) last.0 in
    let own_rd : is_delegated s.owners rd ≡ true = not-false (is_delegated s.owners rd) owns.0 in
    let own_tables : all_delegated s.owners tables ≡ true = not-false (all_delegated s.owners tables) owns.1 in
    let rd_used : used (give_all (give s.owners rd Rd) tables Rtt) rd ≡ true = used-give_all tables (give s.owners rd Rd) rd Rtt refl (used-here s.owners rd Rd refl) in
    record {
      keeps = λ h old. used-give_all tables (give s.owners rd Rd) h Rtt refl (used-give s.owners rd h Rd refl old);
      uses = λ h there. elim (either-of tables rd h there) [
        | inl among ↦ used-in_all tables (give s.owners rd Rd) h Rtt refl among
        | inr same ↦ rw (← same) rd_used
      ];
      free = λ h there. elim (either-of tables rd h there) [
        | inl among ↦ unused-in_all tables s.owners h own_tables among
        | inr same ↦ rw (← same) (unused-delegated (kind_of s.owners rd) own_rd)
      ];
      apart = repeats-append tables (rd ∷ []) (repeats-granules p.rtt_num_start p.rtt_base) refl (λ h among. not-last h among last.1);
    }
  where
    either-of : (gs : List ℕ) (g h : ℕ) → has (gs ++ g ∷ []) h ≡ true → (has gs h ≡ true) ⊎ (g ≡ h)
    either-of gs g h there =
        let split : has gs h || (eqb g h || false) ≡ true = sym (has-append gs (g ∷ []) h) ∙ there in
        elim (cases_Bool (has gs h)) [ inl among ↦ inl among | inr n ↦ inr (eqb-true g h (grind arith)) ]

    not-last : (h : ℕ) → has (start_tables p) h ≡ true → has (start_tables p) rd ≡ false → has (rd ∷ []) h ≡ false
    not-last h among out = elim (cases_Bool (eqb rd h)) [
      | inl e ↦ (let same : rd ≡ h = eqb-true rd h e in let on : has (start_tables p) rd ≡ true = rw same among in absurd (cc))
      | inr n ↦ rw n refl
    ]

-- ---- a list of commands

measured-owners : (s : State) (ps : List Part) → (measured s ps).owners ≡ s.owners
measured-owners s [] = refl
measured-owners s (part ∷ ps) = refl

record TakesOnce (s : State) (cs : List Command) : Type 0 where
  once : repeats (taken cs) ≡ false
  free : (h : ℕ) → has (taken cs) h ≡ true → used s.owners h ≡ false

taken-once : (cs : List Command) (s : State) → accepted s cs ≡ true → TakesOnce s cs
unfolding accepted taken
taken-once [] s = λ ok. record { once = refl; free = λ h there. absurd (cc) }
taken-once (c ∷ cs) s =
    let next : State = measured (changed s c) (parts s c) in
    let Claim : Result State Refused → Type 0 = λ r. (is_ok r && accepted (after s r) cs) ≡ true → TakesOnce s (c ∷ cs) in
    let refused : (e : Refused) → step s c ≡ Err e → Claim (step s c) = λ e at. subst Claim (sym at) (λ ok. absurd (cc)) in
    let done : step s c ≡ Ok next → Claim (step s c) = λ at. subst Claim (sym at) (λ ok.
    (let i : TakesOnce next cs = taken-once cs next ok in
    let takes_c : Takes s c = takes s c (none-holds (checks s c) next next at) in
    let same : next.owners ≡ (changed s c).owners = measured-owners (changed s c) (parts s c) in
    let later : (h : ℕ) → used (changed s c).owners h ≡ true → has (taken cs) h ≡ false = λ h now.
    elim (cases_Bool (has (taken cs) h)) [
      | inl there ↦ (let no_use : used next.owners h ≡ false = i.free h there in
          let in_use : used next.owners h ≡ true = rw same now in absurd (cc))
      | inr n ↦ n
    ] in
    record {
      once = repeats-append (taken_by c) (taken cs) takes_c.apart i.once (λ h there. later h (takes_c.uses h there));
      free = λ h there. elim (cases_Bool (used s.owners h)) [
        | inl old ↦ (let gone : has (taken cs) h ≡ false = later h (takes_c.keeps h old) in
            let split : has (taken_by c) h || has (taken cs) h ≡ true = sym (has-append (taken_by c) (taken cs) h) ∙ there in
            let here : has (taken_by c) h ≡ true = grind arith in
            let new : used s.owners h ≡ false = takes_c.free h here in absurd (cc))
        | inr n ↦ n
      ];
    })) in
    elim (step-cases s c) [ inl at ↦ done at | inr e ↦ refused e.0 e.1 ]

-- accepted commands take no granule twice
pub accepted-once : (s : State) (cs : List Command) → accepted s cs ≡ true → repeats (taken cs) ≡ false
accepted-once s cs ok = (taken-once cs s ok).once

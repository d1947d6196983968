-- A test of a level's arguments, by which each of them has one value at most, and its name finds it.
use Rattle.std.proofs.Common.{◌≡◌, Bool, true, false, cond, not, List, [], ◌∷◌, length, Some, refl}
use Rattle.std.proofs.Common.{ap, ◌∙◌, ◌⊎◌, inl, inr, ◌&&◌, ◌||◌, ◌==◌, nat_lt, ltb-true, arith}
use Rattle.std.specs.List.{AllByRecursion, list_all, list_any}
use Rattle.std.specs.Str.{bytes_eq}
use Rattle.std.proofs.lemmas.Bool.{eqb-true}
use Rattle.std.proofs.lemmas.Slice.Eq.{bytes_eq-Decides}
use Rattle.clap.proofs.WalkLemmas.{both}
use Rattle.clap.specs.Facts.{unwrap_or_range}
use Rattle.clap.specs.Walk.{Rule, Text, action_of, arg_by_id, is_empty}
use Rattle.clap.specs.declared.builder.action.ArgAction.{ArgAction}
use Rattle.clap.specs.declared.builder.action.ArgAction.TheVariants.{Set, Append, SetTrue, SetFalse, Count, Help, HelpShort, HelpLong, Version}
use Rattle.rim_words.proofs.ValuesOfArguments.{IsSound}

abbrev pub is_setting : ArgAction → Bool
is_setting Set = true
is_setting SetTrue = true
is_setting _ = false

abbrev pub is_help : ArgAction → Bool
is_help Help = true
is_help _ = false

-- it takes one value or is a flag, or it is a call for help
abbrev pub is_sound : Rule → Bool
is_sound a = (is_setting (action_of a) && ((unwrap_or_range a.range).start_inclusive == 1 || nat_lt 0 (length a.missing)))
    || (is_help (action_of a) && is_empty a.defaults)

abbrev pub are_distinct : List Rule → Bool
are_distinct [] = true
are_distinct (a ∷ rules) = not (list_any (λ b. bytes_eq a.id b.id) rules) && are_distinct rules

abbrev pub are_sound : List Rule → Bool
are_sound rules = are_distinct rules && list_all is_sound rules

-- what the tests of an action say
tested : (action : ArgAction) → (is_setting action ≡ true → (action ≡ Set) ⊎ (action ≡ SetTrue)) × (is_help action ≡ true → action ≡ Help)
tested Set = ((λ e. inl refl), (λ e. cc))
tested SetTrue = ((λ e. inr refl), (λ e. cc))
tested Help = ((λ e. cc), (λ e. refl))
tested Append = ((λ e. cc), (λ e. cc))
tested SetFalse = ((λ e. cc), (λ e. cc))
tested Count = ((λ e. cc), (λ e. cc))
tested HelpShort = ((λ e. cc), (λ e. cc))
tested HelpLong = ((λ e. cc), (λ e. cc))
tested Version = ((λ e. cc), (λ e. cc))

either : (a b : Bool) → (a || b) ≡ true → (a ≡ true) ⊎ (b ≡ true)
either true b e = inl refl
either false b e = inr e

none : (xs : List Text) → is_empty xs ≡ true → xs ≡ []
none [] e = refl
none (x ∷ xs) e = let some = eqb-true (length (x ∷ xs)) 0 e in absurd (omega (arith, some))

sound : (c : List Rule) (a : Rule) → arg_by_id c a.id ≡ Some a → is_sound a ≡ true → IsSound c a
sound c a own e = elim (either (is_setting (action_of a) && ((unwrap_or_range a.range).start_inclusive == 1 || nat_lt 0 (length a.missing))) _ e) [
  | inl sets ↦ let parts = both (is_setting (action_of a)) _ sets in inl (record {
    set = (tested (action_of a)).0 parts.0;
    some = elim (either ((unwrap_or_range a.range).start_inclusive == 1) _ parts.1) [
      | inl one ↦ inl (eqb-true _ _ one)
      | inr missing ↦ inr (ltb-true _ _ missing)
    ];
    own = own;
  })
  | inr helps ↦ let parts = both (is_help (action_of a)) (is_empty a.defaults) helps in inr ((tested (action_of a)).1 parts.0, none a.defaults parts.1)
]

pub each_sound : (c rules : List Rule) → AllByRecursion (λ a. arg_by_id c a.id ≡ Some a) rules → list_all is_sound rules ≡ true
    → AllByRecursion (IsSound c) rules
each_sound c [] own e = tt
each_sound c (a ∷ rules) own e =
    let parts = both (is_sound a) (list_all is_sound rules) e in
    (sound c a own.0 parts.0, each_sound c rules own.1 parts.1)

not_true : (b : Bool) → not b ≡ true → b ≡ false
not_true true e = cc
not_true false e = refl

-- what a name finds, it finds behind an argument of another name
behind : (a : Rule) (c rules : List Rule) → list_any (λ b. bytes_eq a.id b.id) rules ≡ false → AllByRecursion (λ b. arg_by_id c b.id ≡ Some b) rules
    → AllByRecursion (λ b. arg_by_id (a ∷ c) b.id ≡ Some b) rules
behind a c [] e own = tt
behind a c (b ∷ rules) e own = go (bytes_eq a.id b.id) refl (λ rest. behind a c rules rest own.1) e
  where
    go : (same : Bool) → bytes_eq a.id b.id ≡ same
        → (list_any (λ b. bytes_eq a.id b.id) rules ≡ false → AllByRecursion (λ b. arg_by_id (a ∷ c) b.id ≡ Some b) rules)
        → (same || list_any (λ b. bytes_eq a.id b.id) rules) ≡ false
        → AllByRecursion (λ b. arg_by_id (a ∷ c) b.id ≡ Some b) (b ∷ rules)
    go true is rest e = cc
    go false is rest e = (ap (λ (same : Bool). cond same (Some a) (arg_by_id c b.id)) is ∙ own.0, rest e)

-- each name finds its argument, where no two are the same
pub each_own : (c : List Rule) → are_distinct c ≡ true → AllByRecursion (λ a. arg_by_id c a.id ≡ Some a) c
each_own [] e = tt
each_own (a ∷ c) e =
    let parts = both (not (list_any (λ b. bytes_eq a.id b.id) c)) (are_distinct c) e in (
      ap (λ (same : Bool). cond same (Some a) (arg_by_id c a.id)) ((bytes_eq-Decides a.id a.id).1 refl),
      behind a c c (not_true (list_any (λ b. bytes_eq a.id b.id) c) parts.0) (each_own c parts.1),
    )

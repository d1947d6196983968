-- The values of the arguments of a command's level, where a parse of it succeeds.
use Rattle.std.proofs.Common.{◌≡◌, Bool, true, false, cond, List, [], ◌∷◌, ◌++◌, length, Option, Some, None, refl, ap, sym, ◌∙◌, ◌⊎◌, inl, inr, ◌&&◌, ◌||◌, nat_lt, arith, ◌<◌, lt-ltb, length-append}
use Rattle.std.specs.Prelude.{find, is_some, option_and_then, slice_get}
use Rattle.std.specs.List.{list_all}
use Rattle.std.specs.Option.{option_map_or}
use Rattle.std.specs.Str.{bytes_eq}
use Rattle.std.proofs.lemmas.List.Folds.{list_all-append}
use Rattle.std.proofs.lemmas.Option.{same_Some}
use Rattle.std.proofs.lemmas.Bool.{ne_eqb}
use Rattle.std.proofs.lemmas.Slice.Eq.{bytes_eq-Decides}
use Rattle.clap.proofs.WalkLemmas.{both}
use Rattle.clap.specs.Values.{refused_kind}
use Rattle.clap.specs.Facts.{explicit_source, parser_of_value, unwrap_or_range}
use Rattle.clap.specs.ValueTests.{accepts}
use Rattle.clap.specs.Kinds.{range_kinds, request_kinds, value_kinds, values_kinds}
use Rattle.clap.specs.Takes.{is_given, value_passes, values_pass}
use Rattle.clap.specs.Faults.{action_fault, default_fault, given_default_fault, repeat_fault, set_fault, use_fault, values_fault}
use Rattle.clap.specs.Walk.{Row, Rule, Text, action_of, arg_by_id, at_row, default_rows, first_of, has_row, is_empty, more_values, most_values, reading_by, used, used_as, values_or_missing, with_default, with_values, without}
use Rattle.clap.specs.declared.builder.action.ArgAction.TheVariants.{Set, SetTrue, Help}
use Rattle.clap.specs.declared.builder.value_parser.ValueParser.{ValueParser}
use Rattle.clap.specs.declared.parser.matches.ValueSource.{ValueSource}
use Rattle.clap.specs.declared.parser.matches.ValueSource.TheVariants.{DefaultValue, CommandLine}
use Rattle.rim_words.proofs.MatchesPassParsers.{none_of}

values_accepted : (i : Bool) (p : ValueParser) (vs : List Text) → values_kinds i p vs ≡ [] → list_all (accepts i p) vs ≡ true
values_accepted i p [] e = refl
values_accepted i p (v ∷ vs) e =
    let parts = none_of (value_kinds i p v) (values_kinds i p vs) e in
    go (accepts i p v) parts.0 (values_accepted i p vs parts.1)
  where
    go : (b : Bool) → cond b [] (refused_kind p ∷ []) ≡ [] → list_all (accepts i p) vs ≡ true → (b && list_all (accepts i p) vs) ≡ true
    go true e rest = rest
    go false e rest = cc

-- some value is given, and each passes the parser
abbrev pub has_good_values : Row → Rule → Bool
has_good_values r a = nat_lt 0 (length r.values) && values_pass a r.values

-- the row of an argument of the command has good values
abbrev pub fits : List Rule → Row → Bool
fits c r = option_map_or (has_good_values r) (arg_by_id c r.id) true

-- an option or an operand that takes one value, or a flag that has one where it is given; and its name finds it
pub record IsValued (c : List Rule) (a : Rule) : Type 0 where
  pub set : (action_of a ≡ Set) ⊎ (action_of a ≡ SetTrue)
  pub some : ((unwrap_or_range a.range).start_inclusive ≡ 1) ⊎ (0 < length a.missing)
  pub own : arg_by_id c a.id ≡ Some a

-- that, or a call for help
abbrev pub IsSound : List Rule → Rule → Type 0
IsSound c a = IsValued c a ⊎ ((action_of a ≡ Help) × (a.defaults ≡ []))

at_row_fits : (p : Row → Bool) (id : Text) (change : Row → List Row) (missing rows : List Row)
    → ((r : Row) → bytes_eq r.id id ≡ true → p r ≡ true → list_all p (change r) ≡ true) → list_all p missing ≡ true
    → list_all p rows ≡ true → list_all p (at_row id change missing rows) ≡ true
at_row_fits p id change missing [] changed new all = new
at_row_fits p id change missing (r ∷ rs) changed new all =
    let parts = both (p r) (list_all p rs) all in
    go (bytes_eq r.id id) refl parts.0 parts.1 (at_row_fits p id change missing rs changed new parts.1)
  where
    go : (b : Bool) → bytes_eq r.id id ≡ b → p r ≡ true → list_all p rs ≡ true → list_all p (at_row id change missing rs) ≡ true
        → list_all p (cond b (change r ++ rs) (r ∷ at_row id change missing rs)) ≡ true
    go true is here rest later = list_all-append p (change r) rs ∙ rw (changed r is here, rest) refl
    go false is here rest later = rw (here, later) refl

module _ (c : List Rule) (a : Rule) (valued : IsValued c a) where
  good : (r : Row) (v : Text) (vs : List Text) → values_pass a (v ∷ vs) ≡ true → bytes_eq r.id a.id ≡ true
      → fits c r ≡ true → (s : Option ValueSource) → fits c (record r { values = r.values ++ v ∷ vs; source = s }) ≡ true
  good r v vs pass same e s =
      let id : r.id ≡ a.id = (bytes_eq-Decides r.id a.id).0 same in
      let found : arg_by_id c r.id ≡ Some a = ap (arg_by_id c) id ∙ valued.own in
      let parts = both (nat_lt 0 (length r.values)) (values_pass a r.values) (rw found at e) in
      let some : 0 < length (r.values ++ v ∷ vs) = omega (arith, length-append r.values (v ∷ vs)) in
      let each : values_pass a (r.values ++ v ∷ vs) ≡ true = list_all-append (value_passes a) r.values (v ∷ vs) ∙ rw (parts.1, pass) refl in
      rw (found, lt-ltb 0 (length (r.values ++ v ∷ vs)) some) each

  -- values that pass are added to the rows
  added : (s : ValueSource) (v : Text) (vs : List Text) (rows : List Row) → values_fault a (v ∷ vs) ≡ [] → list_all (fits c) rows ≡ true
      → list_all (fits c) (with_values a.id (reading_by a) s (v ∷ vs) rows) ≡ true
  added s v vs rows e all =
      let pass : values_pass a (v ∷ vs) ≡ true = values_accepted a.ignore_case (parser_of_value a.parser) (v ∷ vs) e in
      at_row_fits (fits c) a.id (more_values s (v ∷ vs)) _ rows
      (λ r same here. rw (good r v vs pass same here _) refl)
      (let some : 0 < length (v ∷ vs) = omega arith in rw (valued.own, lt-ltb 0 (length (v ∷ vs)) some, pass) refl) all

  -- a use that does not fail has a value
  has_value : (values : List Text) → range_kinds (unwrap_or_range a.range).start_inclusive (most_values a) (length values) ≡ []
      → 0 < length (values_or_missing a values)
  has_value [] range = elim valued.some [
    | inl one ↦ let none = rw one at range in cc
    | inr some ↦ some
  ]
  has_value (v ∷ vs) range = omega arith

  set_fits : (values : List Text) (rows : List Row) → 0 < length values → values_fault a values ≡ [] → list_all (fits c) rows ≡ true
      → list_all (fits c) (used_as Set a.id (reading_by a) values rows) ≡ true
  set_fits [] rows some e all = absurd (omega (arith, some))
  set_fits (v ∷ vs) rows some e all = added CommandLine v vs (without a.id rows) e (at_row_fits (fits c) a.id (λ _. []) [] rows (λ r same here. refl) refl all)

  -- the argument replaces what it had
  replaces : (again : Bool) (values : List Text) (rows : List Row)
      → (action_fault (action_of a) again a values rows ≡ set_fault again a values rows)
      × (used_as (action_of a) a.id (reading_by a) values rows ≡ used_as Set a.id (reading_by a) values rows)
  replaces again values rows = elim valued.set [
    | inl set ↦ (rw set refl, rw set refl)
    | inr flag ↦ (rw flag refl, rw flag refl)
  ]

  valued_keeps : (again : Bool) (values : List Text) (rows : List Row) → use_fault again a values rows ≡ []
      → list_all (fits c) rows ≡ true → list_all (fits c) (used a values rows) ≡ true
  valued_keeps again values rows e all =
      let parts = none_of (range_kinds (unwrap_or_range a.range).start_inclusive (most_values a) (length values)) _ e in
      let own = replaces again (values_or_missing a values) rows in
      let set = none_of (repeat_fault again a.id rows) (values_fault a (values_or_missing a values)) (sym own.0 ∙ parts.1) in
      ap (list_all (fits c)) own.1 ∙ set_fits (values_or_missing a values) rows (has_value values parts.0) set.1 all

  valued_default : (rows : List Row) → default_fault rows a ≡ [] → list_all (fits c) rows ≡ true → list_all (fits c) (with_default rows a) ≡ true
  valued_default rows e all = go (has_row a.id rows) a.defaults e
    where
      go : (b : Bool) (ds : List Text) → cond (b || is_empty ds) [] (given_default_fault a ds) ≡ []
          → list_all (fits c) (cond b rows (default_rows a.id (reading_by a) ds rows)) ≡ true
      go true ds e = all
      go false [] e = all
      go false (v ∷ vs) e =
          let some : is_empty (v ∷ vs) ≡ false = ne_eqb (length (v ∷ vs)) 0 (λ none. omega (arith, none)) in
          added DefaultValue v vs rows (none_of (request_kinds (action_of a)) (values_fault a (v ∷ vs)) (rw some at e)).1 all

-- a use of an argument that does not fail keeps what each row is to have
pub keeps : (c : List Rule) (again : Bool) (a : Rule) (values : List Text) (rows : List Row) → IsSound c a → use_fault again a values rows ≡ []
    → list_all (fits c) rows ≡ true → list_all (fits c) (used a values rows) ≡ true
keeps c again a values rows (inl valued) e all = valued_keeps c a valued again values rows e all
keeps c again a values rows (inr help) e all =
    let parts = none_of (range_kinds (unwrap_or_range a.range).start_inclusive (most_values a) (length values)) _ e in
    let asks = rw help.0 at parts.1 in cc

-- and so do the default values of one that was not used
pub keeps_default : (c : List Rule) (a : Rule) (rows : List Row) → IsSound c a → default_fault rows a ≡ []
    → list_all (fits c) rows ≡ true → list_all (fits c) (with_default rows a) ≡ true
keeps_default c a rows (inl valued) e all = valued_default c a valued rows e all
keeps_default c a rows (inr help) e all = go (has_row a.id rows)
  where
    go : (b : Bool) → list_all (fits c) (cond b rows (default_rows a.id (reading_by a) a.defaults rows)) ≡ true
    go true = all
    go false = rw help.1 all

-- the first row of an argument has good values
find_fits : (c : List Rule) (p : Row → Bool) (rows : List Row) (r : Row) → list_all (fits c) rows ≡ true → find p rows ≡ Some r
    → (p r ≡ true) × (fits c r ≡ true)
find_fits c p [] r all e = cc
find_fits c p (x ∷ xs) r all e = go (p x) refl (both (fits c x) (list_all (fits c) xs) all) (find_fits c p xs r) e
  where
    go : (b : Bool) → p x ≡ b → (fits c x ≡ true) × (list_all (fits c) xs ≡ true)
        → (list_all (fits c) xs ≡ true → find p xs ≡ Some r → (p r ≡ true) × (fits c r ≡ true))
        → cond b (Some x) (find p xs) ≡ Some r → (p r ≡ true) × (fits c r ≡ true)
    go true is parts later h = let same = same_Some _ _ h in (ap p (sym same) ∙ is, ap (fits c) (sym same) ∙ parts.0)
    go false is parts later h = later parts.1 h

module _ (c : List Rule) (a : Rule) (own : arg_by_id c a.id ≡ Some a) (rows : List Row) (all : list_all (fits c) rows ≡ true) where
  good_values : (r : Row) → find (λ r. bytes_eq r.id a.id) rows ≡ Some r → has_good_values r a ≡ true
  good_values r found =
      let parts = find_fits c (λ r. bytes_eq r.id a.id) rows r all found in
      let id : r.id ≡ a.id = (bytes_eq-Decides r.id a.id).0 parts.0 in
      let mine : arg_by_id c r.id ≡ Some a = ap (arg_by_id c) id ∙ own in
      rw mine at parts.1

  -- an argument that was given has a text
  pub first_given : is_given a.id rows ≡ true → is_some (first_of a.id rows) ≡ true
  first_given given = go (find (λ r. bytes_eq r.id a.id) rows) refl given
    where
      text : (vs : List Text) → (nat_lt 0 (length vs) && values_pass a vs) ≡ true → is_some (slice_get vs 0) ≡ true
      text [] e = cc
      text (v ∷ vs) e = refl

      go : (o : Option Row) → find (λ r. bytes_eq r.id a.id) rows ≡ o → option_map_or (λ r. explicit_source r.source) o false ≡ true
          → is_some (option_and_then (λ r. slice_get r.values 0) o) ≡ true
      go None is given = cc
      go (Some r) is given = text r.values (good_values r is)

  -- its text passes its parser
  pub first_passes : (t : Text) → first_of a.id rows ≡ Some t → value_passes a t ≡ true
  first_passes t is = go (find (λ r. bytes_eq r.id a.id) rows) refl is
    where
      head : (vs : List Text) → (nat_lt 0 (length vs) && values_pass a vs) ≡ true → slice_get vs 0 ≡ Some t → value_passes a t ≡ true
      head [] e is = cc
      head (v ∷ vs) e is = ap (value_passes a) (sym (same_Some _ _ is)) ∙ (both (value_passes a v) (values_pass a vs) (both (nat_lt 0 (length (v ∷ vs))) (values_pass a (v ∷ vs)) e).1).0

      go : (o : Option Row) → find (λ r. bytes_eq r.id a.id) rows ≡ o → option_and_then (λ r. slice_get r.values 0) o ≡ Some t → value_passes a t ≡ true
      go None found is = cc
      go (Some r) found is = head r.values (good_values r found) is

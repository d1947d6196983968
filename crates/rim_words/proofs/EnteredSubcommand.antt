-- The subcommand that a parse entered, and what its matches hold.
use Rattle.std.proofs.Common.{◌≡◌, ℕ, Bool, true, false, cond, not, List, [], ◌∷◌, ◌++◌, map, Option, Some, None, option_map, Box, refl, ap, inl, inr, ◌||◌, ◌&&◌, is_some, subst}
use Rattle.std.specs.Prelude.{IfSome, codes, find, fold, unwrap_or}
use Rattle.std.specs.List.{AllByRecursion, list_all, list_any}
use Rattle.std.specs.Option.{option_map_or}
use Rattle.std.specs.Str.{bytes_eq}
use Rattle.std.specs.Box.{box_value}
use Rattle.std.proofs.lemmas.Option.{same_Some}
use Rattle.clap.specs.Words.{Accepts, Row, Rule, Shape, Text, built, fault_of, first_of, subcommand_of, subcommand_rows}
use Rattle.clap.specs.Simple.{argument_words, built_leaf, entered, filled, filled_from, help_rule, help_shape, index_after, inherited, label_of, marked_built, names_of, new_shape, parser_for, rows_at, with_action, with_leaf_noted}
use Rattle.clap.specs.Kinds.{check_kinds, or_else}
use Rattle.clap.specs.Facts.{parser_of_value}
use Rattle.clap.specs.Faults.{check_fault, default_fault, defaults_fault, entered_fault, level_fault, settle_fault, walk_fault}
use Rattle.clap.specs.Takes.{is_given}
use Rattle.clap.specs.ValueTests.{accepts}
use Rattle.clap.specs.Walk.{Held, action_of, answers_to, arg_by_id, nothing_held, rows_after, settled, stop_after, walk, walk_from, with_default}
use Rattle.clap.specs.declared.builder.value_parser.ValueParser.{ValueParser}
use Rattle.clap.specs.declared.parser.matches.SubCommand.{SubCommand}
use Rattle.clap.specs.declared.parser.matches.ArgMatches.TheViews.{out-SubCommand}
use Rattle.clap.proofs.ValueTestLemmas.{accepts-Accepts}
use Rattle.clap.proofs.WalkLemmas.{both}
use Rattle.rim_words.specs.Command.{commands, rim}
use Rattle.rim_words.specs.inside.Table.{IsEntered, IsEnteredIn, IsGiven, IsTaken}
use Rattle.rim_words.proofs.HelpIsNotEntered.{IsNoHelp, no_help}
use Rattle.rim_words.proofs.MatchesPassParsers.{none_of, settled_fits, walk_fits}
use Rattle.rim_words.proofs.SoundArguments.{are_distinct, are_sound, each_own, each_sound, is_sound}
use Rattle.rim_words.proofs.ValuesOfArguments.{IsSound, fits, first_given, first_passes, keeps, keeps_default}

find_each : {X : Type 0} (P : X → Type 0) (test : X → Bool) (xs : List X) (x : X) → AllByRecursion P xs → find test xs ≡ Some x → P x
find_each P test [] x each e = cc
find_each P test (y ∷ ys) x each e = go (test y) (find_each P test ys x each.1) e
  where
    go : (b : Bool) → (find test ys ≡ Some x → P x) → cond b (Some y) (find test ys) ≡ Some x → P x
    go true later h = subst P (same_Some _ _ h) each.0
    go false later h = later h

-- the default values that do not fail
defaults_fit : (c rules : List Rule) (rows : List Row) → AllByRecursion (IsSound c) rules → defaults_fault rows rules ≡ []
    → list_all (fits c) rows ≡ true → list_all (fits c) (fold with_default rows rules) ≡ true
unfolding defaults_fault
defaults_fit c [] rows sound e all = all
defaults_fit c (a ∷ rules) rows sound e all =
    let parts = none_of (default_fault rows a) (defaults_fault (with_default rows a) rules) e in
    defaults_fit c rules (with_default rows a) sound.1 parts.1 (keeps_default c a rows sound.0 parts.0 all)

-- a level of a parse that does not fail, for a subcommand whose arguments have one value each
module _ (s : Shape) (words : List Text) (sound : AllByRecursion (IsSound s.rules) s.rules)
    (passes : level_fault s [] nothing_held words false [] ≡ []) where
  end : Held
  end = (walk s.rules [] nothing_held words).held

  after_walk : or_else (settle_fault s.rules s.args_override_self end)
      (or_else (defaults_fault (settled s.rules end).rows s.rules) (check_fault s (rows_after s.rules [] words) false)) ≡ []
  unfolding end
  after_walk = (none_of (walk_fault s [] (walk_from nothing_held) words) _ passes).1

  -- each match has good values
  pub rows_fit : list_all (fits s.rules) (rows_after s.rules [] words) ≡ true
  unfolding end
  rows_fit =
      let parts = none_of (walk_fault s [] (walk_from nothing_held) words) _ passes in
      let rest = none_of (settle_fault s.rules s.args_override_self end) _ after_walk in
      let held = walk_fits s (IsSound s.rules) (fits s.rules) (λ test a. find_each (IsSound s.rules) test s.rules a sound) (keeps s.rules s.args_override_self)
      [] (walk_from nothing_held) words parts.0 refl in
      let done = settled_fits s.rules s.args_override_self (IsSound s.rules) (fits s.rules) (λ test a. find_each (IsSound s.rules) test s.rules a sound)
      (keeps s.rules s.args_override_self) end rest.0 held in
      defaults_fit s.rules s.rules (settled s.rules end).rows sound (none_of (defaults_fault (settled s.rules end).rows s.rules) _ rest.1).0 done

  -- no check of the whole level fails
  pub checks_pass : check_fault s (rows_after s.rules [] words) false ≡ []
  unfolding end
  checks_pass = (none_of (defaults_fault (settled s.rules end).rows s.rules) _ (none_of (settle_fault s.rules s.args_override_self end) _ after_walk).1).1

-- an argument of a level whose rows are good
module _ (c : List Rule) (rows : List Row) (all : list_all (fits c) rows ≡ true) (a : Rule) (own : arg_by_id c a.id ≡ Some a) where
  given : (required explicit : Bool) → (required && not explicit) ≡ false → (explicit ≡ true → is_some (first_of a.id rows) ≡ true) → IsGiven required a.id rows
  given true true e text = text refl
  given true false e text = cc
  given false explicit e text = tt

  passed : (o : Option ValueParser) → ((t : Text) → first_of a.id rows ≡ Some t → accepts a.ignore_case (parser_of_value o) t ≡ true)
      → IfSome o (λ parser. IfSome (first_of a.id rows) (λ text. Accepts a.ignore_case parser text))
  passed None passes = tt
  passed (Some p) passes = text (first_of a.id rows) refl
    where
      text : (o : Option Text) → first_of a.id rows ≡ o → IfSome o (λ text. Accepts a.ignore_case p text)
      text None is = tt
      text (Some t) is = accepts-Accepts a.ignore_case p t (passes t is)

  taken : (a.required && not (is_given a.id rows)) ≡ false → IsTaken rows a
  taken e = (given a.required (is_given a.id rows) e (first_given c a own rows all), passed a.parser (first_passes c a own rows all))

neither : (a b : Bool) → (a || b) ≡ false → (a ≡ false) × (b ≡ false)
neither true b e = cc
neither false b e = (refl, e)

each_taken : (c rules : List Rule) (rows : List Row) → list_all (fits c) rows ≡ true → AllByRecursion (λ a. arg_by_id c a.id ≡ Some a) rules
    → list_any (λ a. a.required && not (is_given a.id rows)) rules ≡ false → AllByRecursion (IsTaken rows) rules
each_taken c [] rows all own e = tt
each_taken c (a ∷ rules) rows all own e =
    let parts = neither (a.required && not (is_given a.id rows)) _ e in
    (taken c rows all a own.0 parts.0, each_taken c rules rows all own.1 parts.1)

-- no argument is missing, where no check fails
none_missing : (missing : Bool) → check_kinds false false missing ≡ [] → missing ≡ false
none_missing true e = cc
none_missing false e = refl

-- what holds of arguments as they are built holds of them as they are listed
as_listed : (i : ℕ) (rules more : List Rule) (rows : List Row) → AllByRecursion (IsTaken rows) (filled_from i (rules ++ more)) → AllByRecursion (IsTaken rows) rules
as_listed i [] more rows each = tt
as_listed i (a ∷ rules) more rows each = ((each.0.0, own a.parser each.0.1), as_listed (index_after i (filled a)) rules more rows each.1)
  where
    Passes : ValueParser → Type 0
    Passes parser = IfSome (first_of a.id rows) (λ text. Accepts a.ignore_case parser text)

    own : (o : Option ValueParser) → Passes (unwrap_or o (parser_for (action_of (with_action a)))) → IfSome o Passes
    own None passes = tt
    own (Some parser) passes = passes

-- a subcommand as it is built below `rim`
abbrev shape_in : Text × List Rule → Shape
shape_in c = built_leaf (inherited (with_leaf_noted (marked_built rim.top)) (record (new_shape c.0) { rules = c.1 }))

leaf_taken : (c : Text × List Rule) → are_sound (shape_in c).rules ≡ true → (words : List Text)
    → level_fault (shape_in c) [] nothing_held words false [] ≡ [] → AllByRecursion (IsTaken (rows_after (shape_in c).rules [] words)) c.1
leaf_taken c are words passes = as_listed 1 c.1 (help_rule ∷ []) rows (each_taken rules rules rows all own missing)
  where
    rules : List Rule
    rules = (shape_in c).rules

    rows : List Row
    rows = rows_after rules [] words

    own : AllByRecursion (λ a. arg_by_id rules a.id ≡ Some a) rules
    own = each_own rules (both (are_distinct rules) (list_all is_sound rules) are).0

    sound : AllByRecursion (IsSound rules) rules
    sound = each_sound rules rules own (both (are_distinct rules) (list_all is_sound rules) are).1

    all : list_all (fits rules) rows ≡ true
    all = rows_fit (shape_in c) words sound passes

    missing : list_any (λ a. a.required && not (is_given a.id rows)) rules ≡ false
    missing = none_missing (list_any (λ a. a.required && not (is_given a.id rows)) rules) (checks_pass (shape_in c) words sound passes)

-- `help` as it is built below `rim`
abbrev help_leaf : List Shape
help_leaf = built_leaf help_shape ∷ []

abbrev subs_of : List (Text × List Rule) → List Shape
subs_of cs = map shape_in cs ++ help_leaf

-- the matches of each subcommand hold what they are to, where it is not `help`
found_taken : (word : Text) (words : List Text) (cs : List (Text × List Rule)) (p : Text × List Row) → list_all (λ c. are_sound (shape_in c).rules) cs ≡ true
    → bytes_eq (codes "help") word ≡ false
    → option_map (λ s. rows_at s words) (find (λ s. answers_to word (label_of s)) (subs_of cs)) ≡ Some p
    → option_map_or (λ s. level_fault s [] nothing_held words false []) (find (λ s. answers_to word (label_of s)) (subs_of cs)) [] ≡ []
    → IsEnteredIn cs p.0 p.1
found_taken word words [] p are other is passes = let none = rw other at is in cc
found_taken word words (c ∷ cs) p are other is passes =
    let parts = both (are_sound (shape_in c).rules) (list_all (λ c. are_sound (shape_in c).rules) cs) are in
    go (answers_to word (label_of (shape_in c))) parts.0 (found_taken word words cs p parts.1 other) is passes
  where
    rest : Option Shape
    rest = find (λ t. answers_to word (label_of t)) (subs_of cs)

    go : (b : Bool) → are_sound (shape_in c).rules ≡ true
        → (option_map (λ t. rows_at t words) rest ≡ Some p → option_map_or (λ t. level_fault t [] nothing_held words false []) rest [] ≡ [] → IsEnteredIn cs p.0 p.1)
        → option_map (λ t. rows_at t words) (cond b (Some (shape_in c)) rest) ≡ Some p
        → option_map_or (λ t. level_fault t [] nothing_held words false []) (cond b (Some (shape_in c)) rest) [] ≡ []
        → IsEnteredIn (c ∷ cs) p.0 p.1
    go true are later is passes =
        inl (subst (λ (r : Text × List Row). (r.0 ≡ c.0) × AllByRecursion (IsTaken r.1) c.1) (same_Some _ _ is) (refl, leaf_taken c are words passes))
    go false are later is passes = inr (later is passes)

stopped_taken : (stop : Option (Text × List Text)) (p : Text × List Row) → IsNoHelp stop → entered (built rim) stop ≡ Some p
    → entered_fault (built rim) stop ≡ [] → IsEntered p.0 p.1
stopped_taken None p other is passes = cc
stopped_taken (Some q) p other is passes = found_taken q.0 q.1 commands p refl other is passes

-- where `clap` takes the words, the matches of the subcommand hold what they are to
pub entered_good : (words : List Text) (p : Text × List Row) → fault_of rim words ≡ [] → subcommand_of rim words ≡ Some p → IsEntered p.0 p.1
entered_good words p passes is =
    let top = (built rim).top in
    let names = names_of (built rim) in
    let stop = stop_after top.rules names (argument_words rim words) in
    let parts = none_of (walk_fault top names (walk_from nothing_held) (argument_words rim words)) _ passes in
    stopped_taken stop p (no_help top names (argument_words rim words) refl parts.0) is (none_of (entered_fault (built rim) stop) _ parts.1).0

module _ {Z : Type 0} where
  -- the name and the rows of the subcommand that a parse met, put together
  pub rows_met : (o : Option (Box SubCommand Z)) (name : Text) (rows : List Row) → option_map (λ b. (out-SubCommand (box_value b)).name.now) o ≡ Some name
      → option_map (λ (p : Text × List Row). p.1) (subcommand_rows o) ≡ Some rows → subcommand_rows o ≡ Some (name, rows)
  rows_met None name rows n r = cc
  rows_met (Some b) name rows n r = ap Some (pair (same_Some _ _ n) (same_Some _ _ r))
    where
      pair : {a : Text} {s : List Row} → a ≡ name → s ≡ rows → let p : Text × List Row = (a, s) in p ≡ (name, rows)
      pair e f = cc

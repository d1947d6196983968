-- What a parse of a simple command's level puts into its matches: if no step of the walk over the words
-- fails, then each match of an argument has a value, and its values pass the argument's parser.
use Rattle.std.proofs.Common.{◌≡◌, ℕ, Bool, true, false, cond, not, List, [], ◌∷◌, length, drop, Option, Some, None, refl, zero, suc, ◌&&◌, is_some}
use Rattle.std.specs.Prelude.{find, fold, slice_get, encode_utf8}
use Rattle.std.specs.List.{list_all}
use Rattle.std.specs.Option.{option_map_or}
use Rattle.std.specs.Str.{bytes_eq, chars}
use Rattle.clap.specs.Lexer.{long_of, short_of}
use Rattle.clap.specs.Kinds.{Kinds, or_else}
use Rattle.clap.specs.Simple.{Shape}
use Rattle.clap.specs.Faults.{bundle_step_fault, bundle_fault, flag_word_fault, flags_fault, long_fault, option_fault, other_fault, positional_fault}
use Rattle.clap.specs.Faults.{react_fault, settle_fault, short_fault, step_fault, turn_fault, use_fault, walk_fault, word_fault, stray_fault}
use Rattle.clap.specs.declared.error.kind.ErrorKind.TheVariants as kind
use Rattle.clap.specs.Walk.{Held, Names, Outcome, Row, Rule, Step, Text, Waiting, Walk, after_flag, after_step, bundle, arg_by_id, arg_by_index}
use Rattle.clap.specs.Walk.{arg_by_long, arg_by_short, attached_value, bundle_met, bundle_step, done, flag_met, has_long, has_short, idle}
use Rattle.clap.specs.Walk.{is_pending, long_met, long_or_other, next, option, option_met, option_word, plain, plain_word, positional}
use Rattle.clap.specs.Walk.{positional_held, reacted, refused, settled, settled_rows, short_met, short_or_plain, subcommand, subcommand_met}
use Rattle.clap.specs.Walk.{subcommand_or_other, takes_several, takes_values, to_positional, trailing, used, used_by_id, value, waits, walked}
use Rattle.clap.specs.Walk.{walked_from, word_met}

-- both of two steps do not fail
pub none_of : (a b : Kinds) → or_else a b ≡ [] → (a ≡ []) × (b ≡ [])
none_of [] b e = (refl, e)
none_of (k ∷ ks) b e = cc

-- `keeps` says that a use of an argument that does not fail keeps what each row is to have
module _ (c : List Rule) (again : Bool) (IsSound : Rule → Type 0) (fits : Row → Bool)
    (sound : (test : Rule → Bool) (a : Rule) → find test c ≡ Some a → IsSound a)
    (keeps : (a : Rule) (values : List Text) (rows : List Row) → IsSound a → use_fault again a values rows ≡ []
    → list_all fits rows ≡ true → list_all fits (used a values rows) ≡ true) where
  abbrev Fit : List Row → Type 0
  Fit rows = list_all fits rows ≡ true

  used_fits : (p : Text × List Text) (o : Option Rule) (rows : List Row) → arg_by_id c p.0 ≡ o
      → option_map_or (λ a. use_fault again a p.1 rows) o [] ≡ [] → Fit rows → Fit (used_by_id o p.1 rows)
  used_fits p None rows is e f = f
  used_fits p (Some a) rows is e f = keeps a p.1 rows (sound (λ a. bytes_eq a.id p.0) a is) e f

  pending_fits : (o : Option (Text × List Text)) (rows : List Row)
      → option_map_or (λ p. option_map_or (λ a. use_fault again a p.1 rows) (arg_by_id c p.0) []) o [] ≡ []
      → Fit rows → Fit (settled_rows c o rows)
  pending_fits None rows e f = f
  pending_fits (Some p) rows e f = used_fits p (arg_by_id c p.0) rows refl e f

  pub settled_fits : (h : Held) → settle_fault c again h ≡ [] → Fit h.rows → Fit (settled c h).rows
  settled_fits h e f = pending_fits h.pending h.rows e f

  reacted_fits : (a : Rule) (values : List Text) (h : Held) → IsSound a → react_fault c again a values h ≡ []
      → Fit h.rows → Fit (reacted c a values h).rows
  reacted_fits a values h s e f =
      let parts = none_of (settle_fault c again h) (use_fault again a values (settled c h).rows) e in
      keeps a values (settled c h).rows s parts.1 (settled_fits h parts.0 f)

  option_fits : (a : Rule) (v : Option Text) (h : Held) → IsSound a → option_fault c again a v h ≡ []
      → Fit h.rows → Fit (option_met c a v h).0.rows
  option_fits a (Some v) h s e f = reacted_fits a (v ∷ []) h s e f
  option_fits a None h s e f = settled_fits h e f

  long_fits : (name : Text) (o : Option Rule) (v : Option Text) (h : Held) → arg_by_long c name ≡ o → long_fault c again o v h ≡ []
      → Fit h.rows → Fit (long_met c o v h).0.rows
  long_fits name None v h is e f = f
  long_fits name (Some a) v h is e f = go (takes_values a) e
    where
      s : IsSound a
      s = sound (λ a. not (is_some a.index) && has_long a name) a is

      go : (b : Bool) → cond b (option_fault c again a v h) (cond (is_some v) (kind.TooManyValues ∷ []) (react_fault c again a [] h)) ≡ []
          → Fit (cond b (option_met c a v h) (flag_met c a v h)).0.rows
      go true e = option_fits a v h s e f
      go false e = flag_given v e
        where
          flag_given : (v : Option Text) → cond (is_some v) (kind.TooManyValues ∷ []) (react_fault c again a [] h) ≡ [] → Fit (flag_met c a v h).0.rows
          flag_given (Some t) e = f
          flag_given None e = reacted_fits a [] h s e f

  short_fits : (x : ℕ) (o : Option Rule) (rest : Text) (h : Held) (onward : Held → Held × Outcome) (fault : Held → Kinds)
      → ((g : Held) → fault g ≡ [] → Fit g.rows → Fit (onward g).0.rows)
      → arg_by_short c x ≡ o → short_fault c again o rest h fault ≡ [] → Fit h.rows → Fit (short_met c o rest h onward).0.rows
  short_fits x None rest h onward fault later is e f = f
  short_fits x (Some a) rest h onward fault later is e f = go (takes_values a) e
    where
      s : IsSound a
      s = sound (λ a. not (is_some a.index) && has_short a x) a is

      go : (b : Bool) → cond b (option_fault c again a (attached_value rest) h) (or_else (react_fault c again a [] h) (fault (reacted c a [] h))) ≡ []
          → Fit (cond b (option_met c a (attached_value rest) h) (onward (reacted c a [] h))).0.rows
      go true e = option_fits a (attached_value rest) h s e f
      go false e =
          let parts = none_of (react_fault c again a [] h) (fault (reacted c a [] h)) e in
          later (reacted c a [] h) parts.1 (reacted_fits a [] h s parts.0 f)

  character_fits : (o : Option ℕ) (flags : Text) (skip : ℕ) (so_far : Outcome) (h : Held)
      (onward : Text → ℕ → Outcome → Held → Held × Outcome) (fault : Text → ℕ → Held → Kinds)
      → ((t : Text) (n : ℕ) (s : Outcome) (g : Held) → fault t n g ≡ [] → Fit g.rows → Fit (onward t n s g).0.rows)
      → bundle_step_fault c again o flags skip h fault ≡ [] → Fit h.rows → Fit (bundle_step c o flags skip so_far h onward).0.rows
  character_fits None flags skip so_far h onward fault later e f = f
  character_fits (Some x) flags zero so_far h onward fault later e f =
      let rest = drop (length (encode_utf8 x)) flags in
      short_fits x (arg_by_short c x) rest h (onward rest 0 done) (fault rest 0) (later rest 0 done) refl e f
  character_fits (Some x) flags (suc skip) so_far h onward fault later e f =
      later (drop (length (encode_utf8 x)) flags) skip so_far h e f

  bundle_fits : (k : ℕ) (flags : Text) (skip : ℕ) (so_far : Outcome) (h : Held) → flags_fault c again k flags skip h ≡ []
      → Fit h.rows → Fit (bundle_met c k flags skip so_far h).0.rows
  unfolding bundle_met flags_fault
  bundle_fits zero flags skip so_far h e f = f
  bundle_fits (suc k) flags skip so_far h e f =
      character_fits (slice_get (chars flags) 0) flags skip so_far h (bundle_met c k) (flags_fault c again k) (bundle_fits k) e f

  option_word_fits : (o : Option Rule) (id word : Text) (h : Held) → Fit h.rows → Fit (option_word o id word h).0.rows
  option_word_fits None id word h f = f
  option_word_fits (Some a) id word h f = f

  plain_fits : (waiting : Waiting) (word : Text) (h : Held) → Fit h.rows → Fit (plain_word c waiting word h).0.rows
  plain_fits idle word h f = f
  plain_fits (option id) word h f = option_word_fits (arg_by_id c id) id word h f
  plain_fits positional word h f = f

  flag_word_fits : (waiting : Waiting) (word : Text) (h : Held) (o : Outcome) → Fit h.rows → Fit (after_flag c waiting word h o).0.rows
  flag_word_fits waiting word h done f = f
  flag_word_fits waiting word h (waits id) f = f
  flag_word_fits waiting word h plain f = plain_fits waiting word h f
  flag_word_fits waiting word h refused f = plain_fits waiting word h f

  other_fits : (p : Option (Text × Option Text)) (waiting : Waiting) (word : Text) (h : Held) → flag_word_fault c again p word h ≡ []
      → Fit h.rows → Fit (long_or_other c waiting word p h).0.rows
  other_fits (Some p) waiting word h e f =
      flag_word_fits waiting word _ (long_met c (arg_by_long c p.0) p.1 h).1 (long_fits p.0 (arg_by_long c p.0) p.1 h refl e f)
  other_fits None waiting word h e f = go (short_of word) e
    where
      go : (o : Option Text) → option_map_or (λ flags. bundle_fault c again flags h) o [] ≡ [] → Fit (short_or_plain c waiting word o h).0.rows
      go None e = plain_fits waiting word h f
      go (Some flags) e =
          flag_word_fits waiting word _ (bundle c flags h).1 (bundle_fits (length flags) flags h.skip plain (record h { skip = 0 }) e f)

  positional_fits : (a : Rule) (word : Text) (h : Held) → positional_fault c again a h ≡ [] → Fit h.rows → Fit (positional_held c a word h).rows
  positional_fits a word h e f = go (is_pending a h.pending && takes_several a) e
    where
      go : (b : Bool) → cond b [] (settle_fault c again h) ≡ [] → Fit (cond b h (settled c h)).rows
      go true e = f
      go false e = settled_fits h e f

  to_positional_fits : (o : Option Rule) (stray : Kinds) (word : Text) (w : Walk) (h : Held)
      → option_map_or (λ a. positional_fault c again a h) o stray ≡ [] → Fit h.rows → Fit (to_positional c o word w h).held.rows
  to_positional_fits None stray word w h e f = f
  to_positional_fits (Some a) stray word w h e f = positional_fits a word h e f

-- the same over the words of a level
module _ (s : Shape) (IsSound : Rule → Type 0) (fits : Row → Bool)
    (sound : (test : Rule → Bool) (a : Rule) → find test s.rules ≡ Some a → IsSound a)
    (keeps : (a : Rule) (values : List Text) (rows : List Row) → IsSound a → use_fault s.args_override_self a values rows ≡ []
    → list_all fits rows ≡ true → list_all fits (used a values rows) ≡ true) where
  abbrev FitAt : Held → Type 0
  FitAt h = list_all fits h.rows ≡ true

  after_fits : (word : Text) (w : Walk) (h : Held) (step : Step) → step_fault s w.position h step ≡ [] → FitAt h → FitAt (after_step s.rules word w h step).held
  after_fits word w h (next waiting) e f = f
  after_fits word w h (trailing position) e f = f
  after_fits word w h (subcommand name) e f = f
  after_fits word w h value e f =
      to_positional_fits s.rules s.args_override_self IsSound fits sound keeps (arg_by_index s.rules w.position) (stray_fault s) word w h e f

  word_fits : (names : Names) (is_trailing : Bool) (waiting : Waiting) (position : ℕ) (word : Text) (h : Held)
      → word_fault s names is_trailing waiting word h ≡ [] → FitAt h → FitAt (word_met s.rules names is_trailing waiting position word h).0
  word_fits names true waiting position word h e f = f
  word_fits names false waiting position word h e f = go (subcommand_met names waiting word) e
    where
      go : (o : Option Text) → other_fault s o word h ≡ [] → FitAt (subcommand_or_other s.rules o waiting position word h).0
      go (Some name) e = f
      go None e = dashes (bytes_eq word (45 ∷ 45 ∷ [])) e
        where
          dashes : (b : Bool) → cond b [] (flag_word_fault s.rules s.args_override_self (long_of word) word h) ≡ []
              → FitAt (let met : Held × Step = cond b (h, trailing position) (long_or_other s.rules waiting word (long_of word) h) in met.0)
          dashes true e = f
          dashes false e = other_fits s.rules s.args_override_self IsSound fits sound keeps (long_of word) waiting word h e f

  turn_fits : (names : Names) (w : Walk) (word : Text) → turn_fault s names w word ≡ [] → FitAt w.held → FitAt (walked s.rules names w word).held
  unfolding walked
  turn_fits names w word e f = go w.stopped e
    where
      met : Held × Step
      met = word_met s.rules names w.is_trailing w.waiting w.position word w.held

      go : (o : Option (Text × List Text)) → cond (is_some o) [] (or_else (word_fault s names w.is_trailing w.waiting word w.held) (step_fault s w.position met.0 met.1)) ≡ []
          → FitAt (walked_from s.rules names o w word).held
      go (Some p) e = f
      go None e =
          let parts = none_of (word_fault s names w.is_trailing w.waiting word w.held) (step_fault s w.position met.0 met.1) e in
          after_fits word w met.0 met.1 parts.1 (word_fits names w.is_trailing w.waiting w.position word w.held parts.0 f)

  pub walk_fits : (names : Names) (w : Walk) (words : List Text) → walk_fault s names w words ≡ [] → FitAt w.held
      → FitAt (fold (walked s.rules names) w words).held
  unfolding walk_fault
  walk_fits names w [] e f = f
  walk_fits names w (word ∷ words) e f =
      let parts = none_of (turn_fault s names w word) (walk_fault s names (walked s.rules names w word) words) e in
      walk_fits names (walked s.rules names w word) words parts.1 (turn_fits names w word parts.0 f)

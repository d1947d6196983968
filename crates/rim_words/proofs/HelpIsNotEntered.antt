-- A parse that does not fail enters no subcommand `help`: `clap` answers that by a text.
use Rattle.std.proofs.Common.{◌≡◌, Bool, true, false, cond, not, List, [], ◌∷◌, ◌++◌, Option, Some, None, refl, ap, sym, ◌∙◌, ◌&&◌, is_some}
use Rattle.std.specs.Prelude.{codes, fold}
use Rattle.std.specs.Str.{bytes_eq}
use Rattle.std.proofs.lemmas.Slice.Eq.{bytes_eq-Decides}
use Rattle.clap.specs.Kinds.{or_else}
use Rattle.clap.specs.Simple.{Shape}
use Rattle.clap.specs.Faults.{other_fault, step_fault, turn_fault, walk_fault, word_fault}
use Rattle.clap.specs.Lexer.{long_of, short_of}
use Rattle.clap.specs.declared.error.kind.ErrorKind.TheVariants as kind
use Rattle.clap.specs.Walk.{Held, Names, Outcome, Rule, Step, Text, Waiting, Walk, after_flag, after_step, arg_by_index, done, idle, long_or_other, next}
use Rattle.clap.specs.Walk.{nothing_held, option, plain, plain_word, positional, refused, short_or_plain, stop_after, subcommand, subcommand_met}
use Rattle.clap.specs.Walk.{subcommand_or_other, to_positional, trailing, value, waits, walk_from, walked, walked_from, word_met}
use Rattle.rim_words.proofs.MatchesPassParsers.{none_of}

-- the subcommand that was met, if one was, has another name
abbrev pub IsNoHelp : Option (Text × List Text) → Type 0
IsNoHelp None = Unit {0}
IsNoHelp (Some q) = bytes_eq (codes "help") q.0 ≡ false

-- a step that meets no subcommand
abbrev IsOther : Step → Type 0
IsOther (subcommand name) = ⊥
IsOther _ = Unit {0}

plain_other : (c : List Rule) (waiting : Waiting) (word : Text) (h : Held) → IsOther (plain_word c waiting word h).1
plain_other c idle word h = tt
plain_other c (option id) word h = tt
plain_other c positional word h = tt

flag_other : (c : List Rule) (waiting : Waiting) (word : Text) (h : Held) (o : Outcome) → IsOther (after_flag c waiting word h o).1
flag_other c waiting word h plain = plain_other c waiting word h
flag_other c waiting word h done = tt
flag_other c waiting word h (waits id) = tt
flag_other c waiting word h refused = plain_other c waiting word h

short_other : (c : List Rule) (waiting : Waiting) (word : Text) (flags : Option Text) (h : Held) → IsOther (short_or_plain c waiting word flags h).1
short_other c waiting word (Some flags) h = flag_other c waiting word _ _
short_other c waiting word None h = plain_other c waiting word h

long_other : (c : List Rule) (waiting : Waiting) (word : Text) (name : Option (Text × Option Text)) (h : Held) → IsOther (long_or_other c waiting word name h).1
long_other c waiting word (Some p) h = flag_other c waiting word _ _
long_other c waiting word None h = short_other c waiting word (short_of word) h

-- such a step leaves no subcommand met
stays : (c : List Rule) (word : Text) (w : Walk) (h : Held) (step : Step) → w.stopped ≡ None → IsOther step → IsNoHelp (after_step c word w h step).stopped
stays c word w h (next waiting) none other = rw none tt
stays c word w h (trailing position) none other = rw none tt
stays c word w h (subcommand name) none other = absurd other
stays c word w h value none other = go (arg_by_index c w.position)
  where
    go : (o : Option Rule) → IsNoHelp (to_positional c o word w h).stopped
    go None = rw none tt
    go (Some a) = tt

module _ (s : Shape) (names : Names) (enabled : s.disable_help_subcommand ≡ false) where
  -- a word that names a subcommand and does not fail
  named : (name : Text) (word : Text) (h : Held) → other_fault s (Some name) word h ≡ [] → bytes_eq (codes "help") name ≡ false
  named name word h e = go (bytes_eq name (codes "help")) refl (rw enabled at e)
    where
      go : (b : Bool) → bytes_eq name (codes "help") ≡ b → cond (b && true) (kind.DisplayHelp ∷ kind.InvalidSubcommand ∷ []) [] ≡ []
          → bytes_eq (codes "help") name ≡ false
      go true is e = cc
      go false is e = other (bytes_eq (codes "help") name) refl
        where
          other : (b : Bool) → bytes_eq (codes "help") name ≡ b → b ≡ false
          other true same =
              let back = (bytes_eq-Decides name (codes "help")).1 (sym ((bytes_eq-Decides (codes "help") name).0 same)) in
              let bad = sym back ∙ is in cc
          other false same = refl

  met_next : (met : Option Text) (w : Walk) (word : Text) → w.stopped ≡ None → other_fault s met word w.held ≡ []
      → let step = subcommand_or_other s.rules met w.waiting w.position word w.held in IsNoHelp (after_step s.rules word w step.0 step.1).stopped
  met_next (Some name) w word none e = named name word w.held e
  met_next None w word none e = go (bytes_eq word (45 ∷ 45 ∷ []))
    where
      go : (b : Bool) → let step = cond b (w.held, trailing w.position) (long_or_other s.rules w.waiting word (long_of word) w.held) in
          IsNoHelp (after_step s.rules word w step.0 step.1).stopped
      go true = rw none tt
      go false = stays s.rules word w _ _ none (long_other s.rules w.waiting word (long_of word) w.held)

  begun : (is_trailing : Bool) (w : Walk) (word : Text) → w.stopped ≡ None → word_fault s names is_trailing w.waiting word w.held ≡ []
      → let step = word_met s.rules names is_trailing w.waiting w.position word w.held in IsNoHelp (after_step s.rules word w step.0 step.1).stopped
  begun true w word none e = stays s.rules word w w.held value none tt
  begun false w word none e = met_next (subcommand_met names w.waiting word) w word none e

  -- a word more
  turned : (w : Walk) (word : Text) → turn_fault s names w word ≡ [] → IsNoHelp w.stopped → IsNoHelp (walked s.rules names w word).stopped
  unfolding walked
  turned w word e other = go w.stopped refl e other
    where
      met : Held × Step
      met = word_met s.rules names w.is_trailing w.waiting w.position word w.held

      go : (o : Option (Text × List Text)) → w.stopped ≡ o
          → cond (is_some o) [] (or_else (word_fault s names w.is_trailing w.waiting word w.held) (step_fault s w.position met.0 met.1)) ≡ []
          → IsNoHelp o → IsNoHelp (walked_from s.rules names o w word).stopped
      go (Some q) is e other = other
      go None is e other = begun w.is_trailing w word is (none_of (word_fault s names w.is_trailing w.waiting word w.held) _ e).0

  over : (w : Walk) (words : List Text) → walk_fault s names w words ≡ [] → IsNoHelp w.stopped → IsNoHelp (fold (walked s.rules names) w words).stopped
  unfolding walk_fault
  over w [] e other = other
  over w (word ∷ rest) e other =
      let parts = none_of (turn_fault s names w word) (walk_fault s names (walked s.rules names w word) rest) e in
      over (walked s.rules names w word) rest parts.1 (turned w word parts.0 other)

-- after all words
pub no_help : (s : Shape) (names : Names) (words : List Text) → s.disable_help_subcommand ≡ false → walk_fault s names (walk_from nothing_held) words ≡ []
    → IsNoHelp (stop_after s.rules names words)
no_help s names words enabled e = over s names enabled (walk_from nothing_held) words e tt

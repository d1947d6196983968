-- A line is read as a command of its name, if that command's words are all of it.
use Rattle.std.proofs.Common.{◌≡◌, ◌≢◌, codes, ℕ, ◌+◌, ◌*◌, ◌==◌, false, eq-eqb, get_or, ◌++◌, List, [], ◌∷◌, sym, ap, ◌∙◌, Option, Some, None, subst}
use Rattle.std.specs.Prelude.{MatchOption, ◌↔◌}
use Rattle.std.proofs.lemmas.Bool.{false≢true}
use Rattle.std.proofs.lemmas.List.{append_cancel_left}
use Rattle.std.specs.List.{flat_map}
use Rattle.rim_desc.specs.declared.command.Command.{Command}
use Rattle.rim_desc.specs.declared.command.Command.TheVariants.{Delegate, RealmCreate, RttCreate, InitRipas, DataCreate, DataCreateUnknown, RecCreate, Activate}
use Rattle.rmi_line.specs.declared.reader.Words.{Words}
use Rattle.rmi_line.specs.Line.{line_of, words_of}
use Rattle.rmi_line.specs.Spelled.{Reads}
use Rattle.rmi_line.specs.Typed.{IsTyped}
use Rattle.rmi_line.specs.inside.Left.{AreLeft}
use Rattle.rmi_line.specs.inside.Words.{spaced}
use Rattle.rmi_line.proofs.LineWordByWord.{line_from, line_of-from}

-- all words of a line after its name are left
abbrev pub Begins : List ℕ → Words → Type 0
Begins rest first = (words : List (List ℕ)) → (rest ≡ flat_map spaced words) ↔ AreLeft first words

-- what was answered in the end
abbrev pub Ends : Words → Command → Option Command → Type 0
Ends last command result = MatchOption result (AreLeft last [] → ⊥) (λ found. (found ≡ command) × IsTyped command × AreLeft last [])

-- after its name, the other words of a command are left
pub left_named : (name rest : List ℕ) (words : List (List ℕ)) (first : Words) → Begins rest first
    → name ++ rest ≡ name ++ flat_map spaced words → AreLeft first words
left_named name rest words first begins same = (begins words).0 (append_cancel_left name rest (flat_map spaced words) same)

-- A line with a name is read as a command, if that command's words are all of it, and if each command of that line
-- has all its words there.
pub read_named : (name rest : List ℕ) (words : List (List ℕ)) (first last : Words) (command : Command) (result : Option Command)
    → words_of command ≡ name ∷ words → Begins rest first → Ends last command result
    → (AreLeft last [] → AreLeft first words)
    → ((other : Command) → IsTyped other → name ++ rest ≡ line_from (words_of other) → AreLeft last [])
    → Reads (name ++ rest) result
read_named name rest words first last command None named begins end found only = λ other spells.
    end (only other spells.1 (spells.0 ∙ line_of-from other))
read_named name rest words first last command (Some read) named begins (same, fit, left) found only =
    let spelled : name ++ rest ≡ line_of command =
    ap (λ r. name ++ r) ((begins words).1 (found left)) ∙ sym (ap line_from named) ∙ sym (line_of-from command) in
    subst (λ c. (name ++ rest ≡ line_of c) × IsTyped c) (sym same) (spelled, fit)

-- two bytes of a name, in which no other name is like it
abbrev pub key : List ℕ → ℕ
key line = get_or line 2 0 + 256 * get_or line 5 0

-- a line does not begin with two names
pub other_name : {A : Type 0} (line other : List ℕ) → line ≡ other → (key line == key other) ≡ false → A
other_name line other same differ = absurd (false≢true (sym differ ∙ eq-eqb (key line) (key other) (ap key same)))

-- a line with none of the names is of no command
pub not_named : (line : List ℕ)
    → ((rest : List ℕ) → line ≢ codes "delegate" ++ rest)
    → ((rest : List ℕ) → line ≢ codes "data_create" ++ rest)
    → ((rest : List ℕ) → line ≢ codes "data_unknown" ++ rest)
    → ((rest : List ℕ) → line ≢ codes "rtt_create" ++ rest)
    → ((rest : List ℕ) → line ≢ codes "init_ripas" ++ rest)
    → ((rest : List ℕ) → line ≢ codes "rec_create" ++ rest)
    → ((rest : List ℕ) → line ≢ codes "realm_create" ++ rest)
    → ((rest : List ℕ) → line ≢ codes "activate" ++ rest)
    → Reads line None
not_named line delegate page unknown rtt ripas rec realm activate command spells = none command (spells.0 ∙ line_of-from command)
  where
    none : (command : Command) → line ≢ line_from (words_of command)
    none (Delegate granule) = delegate _
    none (RealmCreate rd params) = realm _
    none (RttCreate table ipa level) = rtt _
    none (InitRipas base top) = ripas _
    none (DataCreate granule ipa content) = page _
    none (DataCreateUnknown granule ipa) = unknown _
    none (RecCreate granule params) = rec _
    none Activate = activate _

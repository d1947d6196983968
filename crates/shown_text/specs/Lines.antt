-- Remarks, each of which is a line. This project's choice.
use Rattle.std.specs.Prelude.{◌≡◌, ◌==◌, ℕ, true, List, [], ◌∷◌, ◌++◌, Option, Some, None, IfSome, codes, decimal, length, if◌then◌else◌}
use Rattle.std.specs.List.{flat_map, list_all}
use Rattle.shown_text.specs.Shown.{is_plain}
use Rattle.shown_text.specs.declared.remark.Joint.{Joint}
use Rattle.shown_text.specs.declared.remark.Joint.TheVariants.{Brackets, Semicolon, Colon}
use Rattle.shown_text.specs.declared.remark.Remark.{Remark}
use Rattle.shown_text.specs.declared.remark.Word.{Word}
use Rattle.shown_text.specs.declared.remark.Word.TheVariants.{Fault, Warning}

-- ---- what remarks say

-- what a remark says: the word of a fault, or none of a warning; and its texts, where they are known. One that is not there is empty
pub record Saying : Type 0 where
  pub place : Option (List ℕ)
  pub word : Option (List ℕ)
  pub given : Option (List ℕ)
  pub expected : Option (List ℕ)
  pub help : Option (List ℕ)

-- a fault of a place, or a warning: what is given there and what is expected, and nothing that helps
abbrev pub said_of : Option (List ℕ) → List ℕ → List ℕ → List ℕ → Saying
said_of word place given expected = record { place = Some place; word = word; given = Some given; expected = Some expected; help = Some [] }

-- what is said of a file that cannot be read: its path, the word of why, and what else is known of that
abbrev pub file_said : List ℕ → List ℕ → List ℕ → Saying
file_said path word why = said_of (Some word) path why []

-- how many others there are, after a name
abbrev pub others_text : ℕ → List ℕ
others_text others = if others == 0 then codes "\"" else if others == 1 then codes "\" and 1 other" else codes "\" and " ++ (decimal others ++ codes " others")

-- a launch by its name, and how many others there are
abbrev pub launch_text : List ℕ → ℕ → List ℕ
launch_text name others = codes "launch \"" ++ (name ++ others_text others)

abbrev pub word_of : Word → Option (List ℕ)
word_of (Fault word) = Some word.now
word_of Warning = None

-- a text is what is known of it, if all bytes of that are shown as they are
abbrev pub IsKnown : Option (List ℕ) → List ℕ → Type 0
IsKnown known text = IfSome known (λ whole. list_all is_plain whole ≡ true → text ≡ whole)

-- the remark has the word, and the texts that are known
pub record Says (s : Saying) (r : Remark) : Type 0 where
  pub word : word_of r.word ≡ s.word
  pub place : IsKnown s.place r.place.text.items
  pub given : IsKnown s.given r.given.text.items
  pub expected : IsKnown s.expected r.expected.text.items
  pub help : IsKnown s.help r.help.text.items

-- a remark, and others after it
pub record Begins (s : Saying) (Follows : List Remark → Type 0) (remarks : List Remark) : Type 0 where
  pub first : Remark
  pub rest : List Remark
  pub split : remarks ≡ first ∷ rest
  pub says : Says s first
  pub follows : Follows rest

-- there is one remark for each saying, in turn
abbrev pub SayInTurn : List Saying → List Remark → Type 0
SayInTurn [] remarks = remarks ≡ []
SayInTurn (s ∷ said) remarks = Begins s (SayInTurn said) remarks

-- there is one more remark than there was, which says this
abbrev pub AddsLine : Saying → List Remark → List Remark → Type 0
AddsLine s old new = (said : List Saying) → SayInTurn said old → SayInTurn (said ++ s ∷ []) new

-- there are more remarks than there were, which say these in turn
abbrev pub AddsAll : List Saying → List Remark → List Remark → Type 0
AddsAll more old new = (said : List Saying) → SayInTurn said old → SayInTurn (said ++ more) new

-- ---- their lines

-- a text between two others; nothing where it is empty
unfoldable pub between : List ℕ → List ℕ → List ℕ → List ℕ
between before text after = if length text == 0 then [] else before ++ (text ++ after)

-- a place and then the word of its fault; or that it is a warning, and then its place
abbrev pub front_of : Word → List ℕ → List ℕ
front_of (Fault word) place = place ++ between (codes ": ") word.now []
front_of Warning place = codes "warning" ++ between (codes ": ") place []

-- what helps, as it is joined to the rest
abbrev pub help_of : Joint → List ℕ → List ℕ
help_of Brackets help = between (codes " (") help (codes ")")
help_of Semicolon help = between (codes "; ") help []
help_of Colon help = between (codes ": ") help []

-- the line of a remark, without its line feed. None of its texts has one
abbrev pub line_of : Remark → List ℕ
line_of r = ((front_of r.word r.place.text.items ++ between (codes ": ") r.given.text.items [])
    ++ between (codes ", expected ") r.expected.text.items []) ++ help_of r.joint r.help.text.items

-- a line for each remark
abbrev pub lines_of : List Remark → List ℕ
lines_of remarks = flat_map (λ r. line_of r ++ codes "\n") remarks

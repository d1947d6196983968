-- A line, in a listing or a trace, grows word by word, from the command's name on.
use Rattle.std.proofs.Common.{◌≡◌, ℕ, List, [], ◌∷◌, ◌++◌, refl, sym, ap, ◌∙◌, append_assoc}
use Rattle.std.proofs.lemmas.List.{append-nil}
use Rattle.std.specs.List.{flat_map, join_with_byte}
use Rattle.rim_desc.specs.declared.command.Command.{Command}
use Rattle.rmi_line.specs.Line.{line_of, words_of}
use Rattle.rmi_line.specs.inside.Words.{spaced}

-- a line after some more words
abbrev pub grown : List ℕ → List (List ℕ) → List ℕ
grown line [] = line
grown line (word ∷ words) = grown (line ++ spaced word) words

-- the first word and all others
abbrev pub from_first : List (List ℕ) → List ℕ
from_first [] = []
from_first (word ∷ words) = grown word words

pub grown-spaced : (line : List ℕ) (words : List (List ℕ)) → grown line words ≡ line ++ flat_map spaced words
grown-spaced line [] = sym (append-nil line)
grown-spaced line (word ∷ words) = grown-spaced (line ++ spaced word) words ∙ append_assoc line (spaced word) (flat_map spaced words)

-- two words, and some more
pub grown-two : (line first second : List ℕ) (words : List (List ℕ))
    → grown line (first ∷ second ∷ words) ≡ ((line ++ spaced first) ++ spaced second) ++ flat_map spaced words
grown-two line first second words = grown-spaced ((line ++ spaced first) ++ spaced second) words

grown-append : (line : List ℕ) (front back : List (List ℕ)) → grown line (front ++ back) ≡ grown (grown line front) back
grown-append line [] back = refl
grown-append line (word ∷ front) back = grown-append (line ++ spaced word) front back

-- a word between others
pub grown-between : (line word : List ℕ) (front back : List (List ℕ))
    → grown line (front ++ word ∷ back) ≡ ((line ++ flat_map spaced front) ++ spaced word) ++ flat_map spaced back
grown-between line word front back =
    grown-append line front (word ∷ back) ∙ grown-spaced (grown line front ++ spaced word) back
    ∙ ap (λ l. (l ++ spaced word) ++ flat_map spaced back) (grown-spaced line front)

-- a run of words between others, before the last one
pub grown-run : (line word : List ℕ) (front run : List (List ℕ))
    → grown line (front ++ (run ++ (word ∷ []))) ≡ (grown line front ++ flat_map spaced run) ++ spaced word
grown-run line word front run =
    grown-append line front (run ++ (word ∷ [])) ∙ grown-append (grown line front) run (word ∷ [])
    ∙ ap (λ l. l ++ spaced word) (grown-spaced (grown line front) run)

pub joined : (word : List ℕ) (words : List (List ℕ)) → join_with_byte 32 (word ∷ words) ≡ word ++ flat_map spaced words
joined word [] = sym (append-nil word)
joined word (next ∷ words) = ap (λ t. word ++ (32 ∷ t)) (joined next words)

-- the first word, and the others with the space before each
abbrev pub line_from : List (List ℕ) → List ℕ
line_from [] = []
line_from (word ∷ words) = word ++ flat_map spaced words

line_from-joined : (words : List (List ℕ)) → join_with_byte 32 words ≡ line_from words
line_from-joined [] = refl
line_from-joined (word ∷ words) = joined word words

-- the line of a command, its words with the spaces before them
pub line_of-from : (command : Command) → line_of command ≡ line_from (words_of command)
unfolding line_of
line_of-from command = line_from-joined (words_of command)

from_first-line_from : (words : List (List ℕ)) → line_from words ≡ from_first words
from_first-line_from [] = refl
from_first-line_from (word ∷ words) = sym (grown-spaced word words)

-- the line of a command, from its name on
pub line_of-grown : (command : Command) → line_of command ≡ from_first (words_of command)
line_of-grown command = line_of-from command ∙ from_first-line_from (words_of command)

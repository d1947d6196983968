-- A line word by word, as it grows. This project's choice.
use Rattle.std.specs.Prelude.{ℕ, List, ◌++◌, codes}

-- a word with the space before it
abbrev pub spaced : List ℕ → List ℕ
spaced word = codes " " ++ word

-- What is left of a line that is read word by word. This project's choice.
use Rattle.std.specs.Prelude.{◌≡◌, ℕ, true, List, ◌++◌}
use Rattle.std.specs.List.{flat_map}
use Rattle.rmi_line.specs.declared.reader.Words.{Words}
use Rattle.rmi_line.specs.inside.Words.{spaced}

-- these words are left, and each word before them was as it had to be
pub record AreLeft (left : Words) (words : List (List ℕ)) : Type 0 where
  pub whole : left.whole ≡ true
  pub rest : left.rest.now ≡ flat_map spaced words

-- The next words spell what was answered, and are taken. They are taken wherever they spell a value.
pub record Takes {X : Type 0} (spelled : X → List (List ℕ)) (IsValue : X → Type 0) (old : Words) (answer : X) (new : Words)
    : Type 0 where
  pub found : (others : List (List ℕ)) → AreLeft new others → AreLeft old (spelled answer ++ others)
  pub only : (value : X) (others : List (List ℕ))
      → IsValue value → AreLeft old (spelled value ++ others) → AreLeft new others

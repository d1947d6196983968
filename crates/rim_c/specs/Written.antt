-- An answer in the room that a caller lends. This project's choice.
use Rattle.std.specs.Prelude.{◌≡◌, ◌≤◌, ℕ, List, ◌++◌, drop, length}

-- the bytes of an answer are at the beginning of the room, of which the rest is as it was, and their count is said
pub record IsWritten (answer old new : List ℕ) (said : ℕ) : Type 0 where
  pub fits : length answer ≤ length old
  pub bytes : new ≡ answer ++ drop (length answer) old
  pub count : said ≡ length answer

-- A table whose slots are filled in their order. This project's choice.
use Rattle.std.specs.Prelude.{◌≡◌, ℕ, ◌<◌, ◌≤◌, true, length, Some, None, is_some, slice_get}
use Rattle.page_jobs.specs.Table.{TableView, digest_in}

-- the slots before this one are filled, and the others are empty
pub record IsFilledTo (t : TableView) (slot : ℕ) : Type 0 where
  pub filled : (j : ℕ) → j < slot → is_some (digest_in t j) ≡ true
  pub empty : (j : ℕ) → slot ≤ j → j < length t.pages → slice_get t.digests j ≡ Some None

-- Lists of commands that begin alike. This project's choice.
use Rattle.std.specs.Prelude.{◌≡◌, ℕ, Bool, true, List, Some, slice_get}
use Rattle.list_model.specs.Entries.{Contents}

-- the pages of the items that are marked have the same measurements in two launches
abbrev pub AgreeOn : List Bool → Contents → Contents → Type 0
AgreeOn marks f g = (item page : ℕ) → slice_get marks item ≡ Some true → f item page ≡ g item page

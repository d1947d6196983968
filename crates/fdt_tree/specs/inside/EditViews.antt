-- What a path is of which a part is still to walk. This project's choice.
use Rattle.std.specs.Prelude.{ℕ, ◌+◌, List, [], length, Option, Some, None}
use Rattle.std.specs.Borrow.{Bor}
use Rattle.fdt_tree.specs.Lookup.{between_slashes}

-- the names still to walk; `None` means this node
abbrev pub names_in : Option (Bor (List ℕ)) → List (List ℕ)
names_in None = []
names_in (Some names) = between_slashes names.now

-- an upper bound on the number of names still to walk
abbrev pub names_len : Option (Bor (List ℕ)) → ℕ
names_len None = 0
names_len (Some names) = length names.now + 1

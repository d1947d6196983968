-- What the kind of an item asks of its size and of whether it is measured. This project's choice.
use Rattle.std.specs.Prelude.{ℕ, Bool, true, not, ◌&&◌, Option, is_some}
use Rattle.rim_launch.specs.declared.item.ItemKind.{ItemKind}
use Rattle.rim_launch.specs.declared.item.ItemKind.TheVariants.{Unknown}

-- an item of unknown content has no bytes that say its size, so its size is stated; and it is not measured
abbrev pub is_whole : ItemKind → Option ℕ → Bool → Bool
is_whole Unknown size measured = is_some size && not measured
is_whole _ size measured = true

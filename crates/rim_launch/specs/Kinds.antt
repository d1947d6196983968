-- What an item is for, how many items of each role a launch may have, and what a devicetree's edits need.
-- This project's choice.
use Rattle.std.specs.Prelude.{ℕ, List, length, Bool, true, false, not, ◌&&◌, ◌||◌, ◌==◌, nat_le, nat_lt, count_by, is_some, Option, Some, None}
use Rattle.std.specs.List.{list_any}
use Rattle.rim_launch.specs.declared.item.ItemKind.{ItemKind}
use Rattle.rim_launch.specs.declared.item.ItemKind.TheVariants.{Kernel, Initrd, Dtb, Raw, Unknown}
use Rattle.rim_launch.specs.declared.item.Role.{Role}
use Rattle.rim_launch.specs.declared.item.Role.TheVariants as role
use Rattle.rim_launch.specs.declared.item.Item.{Item}
use Rattle.rim_launch.specs.declared.item.Region.{Region}

abbrev pub role_of : ItemKind → Role
role_of (Kernel file) = role.Kernel
role_of (Initrd file) = role.Initrd
role_of (Dtb file edits) = role.Dtb
role_of (Raw file) = role.Raw
role_of Unknown = role.Unknown

abbrev pub is_role : Role → Role → Bool
is_role role.Kernel role.Kernel = true
is_role role.Initrd role.Initrd = true
is_role role.Dtb role.Dtb = true
is_role role.Raw role.Raw = true
is_role role.Unknown role.Unknown = true
is_role _ _ = false

abbrev pub has_role : Role → Item → Bool
has_role r i = is_role r (role_of i.kind)

-- how many items have a role
abbrev pub count_of : Role → List Item → ℕ
count_of r items = count_by (has_role r) items

-- the file that its bytes come from; none where the monitor does not know its content
abbrev pub file_of : ItemKind → Option ℕ
file_of (Kernel file) = Some file
file_of (Initrd file) = Some file
file_of (Dtb file edits) = Some file
file_of (Raw file) = Some file
file_of Unknown = None

-- whether it is one of the first `count` files, if there is one
abbrev pub is_below : ℕ → Option ℕ → Bool
is_below count None = true
is_below count (Some file) = nat_lt file count

-- whether it is edited before it is placed
abbrev pub has_edits : ItemKind → Bool
has_edits (Dtb file edits) = is_some edits.bootargs || edits.initrd || edits.memory
has_edits _ = false

abbrev pub needs_initrd : ItemKind → Bool
needs_initrd (Dtb file edits) = edits.initrd
needs_initrd _ = false

abbrev pub needs_memory : ItemKind → Bool
needs_memory (Dtb file edits) = edits.memory
needs_memory _ = false

-- at most one kernel, one initrd and one devicetree
abbrev pub once_each : List Item → Bool
once_each items = nat_le (count_of role.Kernel items) 1 && nat_le (count_of role.Initrd items) 1 && nat_le (count_of role.Dtb items) 1

-- a devicetree that is to have the initrd's place needs an initrd, and one that is to have the place of
-- RAM needs a region
abbrev pub edits_possible : List Region → List Item → Bool
edits_possible ram items = (nat_lt 0 (count_of role.Initrd items) || not (list_any (λ i. needs_initrd i.kind) items))
    && (not (length ram == 0) || not (list_any (λ i. needs_memory i.kind) items))

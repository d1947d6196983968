-- What names what: the names of files, launches and items, and the kinds of items. This project's choice.
use Rattle.std.specs.Prelude.{ℕ, Bool, false, not, ◌&&◌, ◌||◌, ◌==◌, nat_le, nat_lt, List, [], ◌∷◌, length, position, unwrap_or, codes, count_by}
use Rattle.std.specs.List.{list_any}
use Rattle.std.specs.Str.{bytes_eq}
use Rattle.toml.specs.Data.{Data, get}
use Rattle.rim_launch.specs.Kinds.{is_role}
use Rattle.rim_launch.specs.declared.item.Role.{Role}
use Rattle.rim_launch.specs.declared.item.Role.TheVariants.{Kernel, Initrd, Dtb, Raw, Unknown}
use Rattle.rim_rules.specs.Kinds.{kind_of_word}
use Rattle.rim_rules.specs.Values.{array_at, text_in, truth_in}

abbrev pub name_of : Data → List ℕ
name_of d = text_in (get (codes "name") d)

abbrev pub is_named : List ℕ → Data → Bool
is_named name d = bytes_eq (name_of d) name

-- whether two of them share a name
abbrev pub share_names : List Data → Bool
share_names [] = false
share_names (d ∷ ds) = list_any (is_named (name_of d)) ds || share_names ds

-- ---- kinds of items

-- what an item's table says that it is for; without the word of a kind, which is a fault, it is raw
abbrev pub role_at : Data → Role
role_at d = unwrap_or (kind_of_word (text_in (get (codes "kind") d))) Raw

abbrev pub is_at_role : Role → Data → Bool
is_at_role r d = is_role r (role_at d)

abbrev pub role_count : Role → List Data → ℕ
role_count r ds = count_by (is_at_role r) ds

-- at most one kernel, one initrd and one devicetree
abbrev pub kinds_once : List Data → Bool
kinds_once ds = nat_le (role_count Kernel ds) 1 && nat_le (role_count Initrd ds) 1 && nat_le (role_count Dtb ds) 1

-- whether a devicetree among the items has a key that is true
abbrev pub asks_for : List ℕ → List Data → Bool
asks_for key ds = list_any (λ d. is_at_role Dtb d && truth_in false (get key d)) ds

-- a launch whose devicetree is to have the initrd's place has an initrd, and one whose devicetree is to have the place
-- of RAM has a region
abbrev pub has_asked : Data → Bool
has_asked d = let items = array_at (codes "item") d in
    (nat_lt 0 (role_count Initrd items) || not (asks_for (codes "initrd") items))
    && (not (length (array_at (codes "ram") d) == 0) || not (asks_for (codes "memory") items))

-- two items of a launch share a name, or a kind other than raw and unknown
abbrev pub repeats : Data → Bool
repeats d = share_names (array_at (codes "item") d) || not (kinds_once (array_at (codes "item") d))

-- ---- files

-- whether a file has the name that an item gives as its file
abbrev pub has_file : List Data → Data → Bool
has_file files d = list_any (is_named (text_in (get (codes "file") d))) files

-- the number of the file that an item names
abbrev pub file_at : List Data → Data → ℕ
file_at files d = unwrap_or (position (is_named (text_in (get (codes "file") d))) files) 0

-- whether an item for this needs a file: unknown content comes from none
abbrev pub needs_file : Role → Bool
needs_file r = not (is_role Unknown r)

-- an item needs a file and names none
abbrev pub lacks_its_file : List Data → Data → Bool
lacks_its_file files d = needs_file (role_at d) && not (has_file files d)

-- an item of the launch needs a file and names none
abbrev pub lacks_file : List Data → Data → Bool
lacks_file files d = list_any (lacks_its_file files) (array_at (codes "item") d)

-- What an item's table reads as. This project's choice.
use Rattle.std.specs.Prelude.{◌≡◌, ◌<◌, ◌^◌, ℕ, Bool, true, false, not, ◌&&◌, List, Option, Some, None, codes, if◌then◌else◌, refl, unwrap_or}
use Rattle.std.proofs.lemmas.Bool.{ltb-true}
use Rattle.toml.specs.Data.{Data, string, get}
use Rattle.rim_launch.specs.Kinds.{is_role}
use Rattle.rim_launch.specs.Texts.{has_no_zero}
use Rattle.rim_launch.specs.Whole.{is_whole}
use Rattle.rim_launch.specs.declared.item.Edits.{Edits}
use Rattle.rim_launch.specs.declared.item.Item.{Item}
use Rattle.rim_launch.specs.declared.item.ItemKind.{ItemKind}
use Rattle.rim_launch.specs.declared.item.ItemKind.TheVariants as kind
use Rattle.rim_launch.specs.declared.item.Role.{Role}
use Rattle.rim_launch.specs.declared.item.Role.TheVariants.{Kernel, Initrd, Dtb, Raw, Unknown}
use Rattle.rim_rules.specs.Names.{file_at, role_at}
use Rattle.rim_rules.specs.Values.{number_in, truth_in}
use Rattle.rim_rules.specs.inside.NumberRanges.{most_number, number_low}

-- the command line at a key, if any
abbrev pub bootargs_in : Option Data → Option (List ℕ)
bootargs_in (Some (string s)) = if has_no_zero s then Some s else None
bootargs_in _ = None

abbrev pub edits_of : Data → Edits
edits_of d = record {
  bootargs = bootargs_in (get (codes "bootargs") d);
  initrd = truth_in false (get (codes "initrd") d);
  memory = truth_in false (get (codes "memory") d);
}

-- what an item is for, of this file where its content is known
abbrev pub kind_of : Role → ℕ → Data → ItemKind
kind_of Kernel file d = kind.Kernel file
kind_of Initrd file d = kind.Initrd file
kind_of Dtb file d = kind.Dtb file (edits_of d)
kind_of Raw file d = kind.Raw file
kind_of Unknown file d = kind.Unknown

-- the size at a key, if any
abbrev pub size_in : Option Data → Option ℕ
size_in (Some d) = Some (number_in 0 most_number 0 (Some d))
size_in None = None

-- the size of an item for this, if any. Unknown content always has one: where its table gives none, a fault holds, and it is 0
abbrev pub size_for : Role → Option Data → Option ℕ
size_for Unknown o = Some (number_in 0 most_number 0 o)
size_for _ o = size_in o

-- whether an item for this is measured: unknown content never is
abbrev pub measured_for : Role → Option Data → Bool
measured_for r o = not (is_role Unknown r) && truth_in true o

size_in_within : (o : Option Data) → unwrap_or (size_in o) 0 < 2 ^ 63
size_in_within (Some d) = number_low (Some d)
size_in_within None = ltb-true _ _ refl

pub size_within : (r : Role) (o : Option Data) → unwrap_or (size_for r o) 0 < 2 ^ 63
size_within Kernel o = size_in_within o
size_within Initrd o = size_in_within o
size_within Dtb o = size_in_within o
size_within Raw o = size_in_within o
size_within Unknown o = number_low o

pub is_whole_for : (r : Role) (file : ℕ) (d : Data) (size measured : Option Data) → is_whole (kind_of r file d) (size_for r size) (measured_for r measured) ≡ true
is_whole_for Kernel file d size measured = refl
is_whole_for Initrd file d size measured = refl
is_whole_for Dtb file d size measured = refl
is_whole_for Raw file d size measured = refl
is_whole_for Unknown file d size measured = refl

-- the item of a table, where the files are these
unfoldable pub item_of : List Data → Data → Item
item_of files d = record {
  kind = kind_of (role_at d) (file_at files d) d;
  at = number_in 0 most_number 0 (get (codes "at") d);
  size = size_for (role_at d) (get (codes "size") d);
  measured = measured_for (role_at d) (get (codes "measured") d);
  low = number_low (get (codes "at") d);
  size_low = size_within (role_at d) (get (codes "size") d);
  whole = is_whole_for (role_at d) (file_at files d) d (get (codes "size") d) (get (codes "measured") d);
}

-- The map of a launch that is refused, as lines and as JSON. Members are in the order of their keys. This project's choice.
use Rattle.std.specs.Prelude.{◌≡◌, ℕ, true, List, [], ◌++◌, codes, map, None}
use Rattle.serde_json.specs.Data.{Data, array, member, no_members, object, string}
use Rattle.serde_json.specs.View.{items_of}
use Rattle.serde_json.specs.Written.{compact_text}
use Rattle.rim_accepted.specs.AuditFaults.{audit_kind_of}
use Rattle.rim_accepted.specs.Reasons.{audit_fault_of}
use Rattle.rim_accepted.specs.declared.reason.LaunchReason.{LaunchReason}
use Rattle.rim_accepted.specs.declared.reason.LaunchReason.TheVariants.{Layout, List as Lists}
use Rattle.rim_manifest.specs.Launches.{NamedData, item_name}
use Rattle.launch_json.specs.Items.{count, stated_items_json, stretch_json}
use Rattle.rim_map.specs.MapJson.{SpaceView, launch_json, regions_json, space_of}
use Rattle.map_text.specs.Lines.{are_lines}
use Rattle.map_rows.specs.Rows.{rows_of}
use Rattle.map_rows.specs.Stretches.{AreRising, IsBetween, row_pages}
use Rattle.map_rows.specs.declared.stretches.Stretch.{Stretch}
use Rattle.shown_text.specs.Lines.{line_of}
use Rattle.shown_text.specs.RemarkJson.{remark_json}
use Rattle.shown_text.specs.declared.remark.Remark.{Remark}

-- ---- as lines

-- a text ends with the line of this remark
pub record EndsWithRemark (r : Remark) (text : List ℕ) : Type 0 where
  pub before : List ℕ
  pub whole : are_lines before ≡ true
  pub is : text ≡ before ++ (line_of r ++ codes "\n")

-- ---- as JSON

-- the address space of a launch where files have these paths, but its items no places: they take nothing of its RAM
abbrev pub stated_of : List (List ℕ) → NamedData → List Stretch → SpaceView
stated_of paths l between = record {
  gaps = map stretch_json between;
  items = stated_items_json None (item_name l) paths 0 l.launch.items;
  regions = regions_json [] l.launch.ram;
}

-- the address space that is shown: with the items as they are stated where the launch cannot be laid out, and at their places where
-- it has its place and no list
abbrev pub ShowsSpace : List (List ℕ) → NamedData → List (List ℕ) → LaunchReason → SpaceView → Type 0
ShowsSpace paths l files (Layout why) space = (between : List Stretch) × IsBetween l.launch.ram between × (space ≡ stated_of paths l between)
ShowsSpace paths l files (Lists p why granules) space = (taken : List Stretch) × (between : List Stretch)
    × AreRising (map row_pages (rows_of l.launch files p)) taken × IsBetween l.launch.ram between
    × (space ≡ space_of paths l (rows_of l.launch files p) taken between)

-- the map of a launch that is refused, with the remark that says why, and the word of its refusal
unfoldable pub refused_data : NamedData → SpaceView → Remark → List ℕ → Data
refused_data l space r word =
    object (member (codes "gaps") (array (items_of space.gaps)) (member (codes "items") (array (items_of space.items))
    (member (codes "launch") (launch_json l) (member (codes "refusal") (remark_json r) (member (codes "refused") (string word)
    (member (codes "regions") (array (items_of space.regions)) (member (codes "version") (count 1) no_members)))))))

-- A text is the map of a launch that is refused for this reason, where files have these paths, with this remark
pub record IsRefusedMap (paths : List (List ℕ)) (l : NamedData) (files : List (List ℕ)) (why : LaunchReason) (r : Remark) (text : List ℕ) : Type 0 where
  pub space : SpaceView
  pub seen : ShowsSpace paths l files why space
  pub shown : text ≡ compact_text (refused_data l space r (audit_kind_of (audit_fault_of why))) ++ codes "\n"

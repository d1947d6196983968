-- The JSON of the map of a launch that is refused is made part by part, and has no float.
use Rattle.std.proofs.Common.{◌≡◌, ◌∙◌, ℕ, false, List, [], ◌++◌, codes, map, refl, ap, sym, subst}
use Rattle.std.specs.Prelude.{Ok, Option, None}
use Rattle.serde_json.specs.Data.{Data}
use Rattle.serde_json.specs.View.{items_of}
use Rattle.serde_json.specs.Written.{compact_text, has_float, items_have_float}
use Rattle.ipa_layout.specs.Layout.{PlacedData}
use Rattle.ipa_layout.specs.declared.reason.LayoutReason.{LayoutReason}
use Rattle.rmi_list.specs.declared.reason.ListReason.{ListReason}
use Rattle.rim_accepted.specs.AuditFaults.{audit_kind_of}
use Rattle.rim_accepted.specs.Reasons.{audit_fault_of}
use Rattle.rim_accepted.specs.declared.reason.LaunchReason.{LaunchReason}
use Rattle.rim_accepted.specs.declared.reason.LaunchReason.TheVariants.{Layout, List as Lists}
use Rattle.rim_manifest.specs.Launches.{NamedData, item_name}
use Rattle.rim_map.specs.MapJson.{SpaceView, launch_json, space_of}
use Rattle.rim_map.specs.RefusedMap.{IsRefusedMap, ShowsSpace, refused_data, stated_of}
use Rattle.map_rows.specs.Rows.{rows_of}
use Rattle.map_rows.specs.Stretches.{AreRising, row_pages}
use Rattle.rim_map.specs.inside.Spaces.{IsSpace, IsStated}
use Rattle.map_rows.specs.declared.rows.Row.{Row}
use Rattle.shown_text.specs.declared.remark.Remark.{Remark}
use Rattle.launch_json.proofs.ItemsAsJson.{items-float, rule-float, stated-float, stretches-float}
use Rattle.rim_map.proofs.MapAsJson.{regions-float}

-- ---- no part has a float

abbrev NoFloats : SpaceView → Type 0
NoFloats space = (items_have_float (items_of space.gaps) ≡ false) × (items_have_float (items_of space.items) ≡ false)
    × (items_have_float (items_of space.regions) ≡ false)

space-float : (paths : List (List ℕ)) (l : NamedData) (files : List (List ℕ)) (why : LaunchReason) (space : SpaceView)
    → ShowsSpace paths l files why space → NoFloats space
space-float paths l files (Layout why) space shows =
    subst NoFloats (sym shows.2) (stretches-float shows.0, stated-float None (item_name l) paths 0 l.launch.items, regions-float [] l.launch.ram)
space-float paths l files (Lists p why granules) space shows =
    subst NoFloats (sym shows.4) (
      stretches-float shows.1,
      items-float None (item_name l) paths l.launch.items (rows_of l.launch files p),
      regions-float shows.0 l.launch.ram,
    )

refused-float : (l : NamedData) (space : SpaceView) (r : Remark) (word : List ℕ) → NoFloats space
    → has_float (refused_data l space r word) ≡ false
unfolding refused_data launch_json
refused-float l space r word none = rw (none.0, none.1, rule-float l.launch.config.rec_rule, none.2) refl

-- ---- the address space that is shown

-- of a launch that has its place
pub shows-placed : (paths : List (List ℕ)) (l : NamedData) (files : List (List ℕ)) (p : PlacedData) (why : ListReason) (granules : Option ℕ)
    (rows : List Row) (space : SpaceView) → rows ≡ rows_of l.launch files p → IsSpace paths l rows space → ShowsSpace paths l files (Lists p why granules) space
shows-placed paths l files p why granules rows space placed is_space = (
  is_space.taken,
  is_space.between,
  subst (λ (rs : List Row). AreRising (map row_pages rs) is_space.taken) placed is_space.rising,
  is_space.around,
  is_space.is ∙ ap (λ (rs : List Row). space_of paths l rs is_space.taken is_space.between) placed,
)

-- and of one that cannot be laid out
pub shows-stated : (paths : List (List ℕ)) (l : NamedData) (files : List (List ℕ)) (why : LayoutReason) (space : SpaceView)
    → IsStated paths l space → ShowsSpace paths l files (Layout why) space
shows-stated paths l files why space is_stated = (is_stated.between, is_stated.around, is_stated.is)

-- ---- the whole text

-- the text of a value that was made of a launch's parts is the launch's map
pub shown-refused : (paths : List (List ℕ)) (l : NamedData) (files : List (List ℕ)) (why : LaunchReason) (space : SpaceView) (value : Data)
    (r : Remark) (text : List ℕ) → ShowsSpace paths l files why space
    → value ≡ refused_data l space r (audit_kind_of (audit_fault_of why))
    → (has_float value ≡ false → text ≡ compact_text value ++ codes "\n") → IsRefusedMap paths l files why r text
shown-refused paths l files why space value r text shows made shown = record {
  space = space;
  seen = shows;
  shown = shown (ap has_float made ∙ refused-float l space r (audit_kind_of (audit_fault_of why)) (space-float paths l files why space shows))
      ∙ ap (λ (v : Data). compact_text v ++ codes "\n") made;
}

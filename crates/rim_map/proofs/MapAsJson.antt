-- The JSON of a map is made part by part, and has no float.
use Rattle.std.proofs.Common.{◌≡◌, ◌∙◌, ℕ, false, List, [], ◌∷◌, ◌++◌, codes, map, refl, ap, sym, subst}
use Rattle.std.specs.Prelude.{None}
use Rattle.serde_json.specs.Data.{Data}
use Rattle.serde_json.specs.View.{items_of}
use Rattle.serde_json.specs.Written.{compact_text, has_float, items_have_float}
use Rattle.rim_launch.specs.declared.item.Region.{Region}
use Rattle.ipa_layout.specs.Layout.{PlacedData}
use Rattle.rmi_list.specs.Measured.{measured, page_contents}
use Rattle.rim_manifest.specs.Launches.{NamedData, item_name}
use Rattle.map_rows.specs.Extensions.{extensions_of}
use Rattle.map_rows.specs.Granules.{HasGranules}
use Rattle.map_rows.specs.Rows.{rows_of}
use Rattle.rim_map.specs.inside.Spaces.{IsSpace}
use Rattle.rim_map.specs.MapJson.{IsMap, SpaceView, extensions_json, granules_json, launch_json, map_data, region_json, regions_json, space_of}
use Rattle.launch_json.proofs.ItemsAsJson.{items-float, rule-float, stretches-float}
use Rattle.map_rows.specs.Stretches.{AreRising, gaps_of, row_pages}
use Rattle.map_rows.specs.declared.extensions.Extensions.{Extensions}
use Rattle.map_rows.specs.declared.granules.Granules.{Granules}
use Rattle.map_rows.specs.declared.rows.Row.{Row}
use Rattle.map_rows.specs.declared.stretches.Stretch.{Stretch}
use Rattle.shown_text.proofs.RemarksAsJson.{remarks-float}
use Rattle.shown_text.specs.RemarkJson.{remark_json}
use Rattle.shown_text.specs.declared.remark.Remark.{Remark}

-- ---- no part has a float

pub regions-float : (taken : List Stretch) (ram : List Region) → items_have_float (items_of (regions_json taken ram)) ≡ false
unfolding region_json
regions-float taken [] = refl
regions-float taken (r ∷ ram) = rw (stretches-float (gaps_of r.base r.end taken)) (regions-float taken ram)

-- and no map
pub no-float : (paths : List (List ℕ)) (l : NamedData) (rows : List Row) (taken between : List Stretch) (granules : Granules) (extensions : Extensions)
    (warnings : List Remark)
    → has_float (map_data l (space_of paths l rows taken between) granules extensions (map remark_json warnings)) ≡ false
unfolding map_data granules_json extensions_json launch_json
no-float paths l rows taken between granules extensions warnings =
    rw (
      stretches-float between,
      items-float None (item_name l) paths l.launch.items rows,
      rule-float l.launch.config.rec_rule,
      regions-float taken l.launch.ram,
      remarks-float warnings,
    ) refl

-- ---- the whole text

-- the text of a value that was made of a launch's parts is the launch's map
pub shown-map : (paths : List (List ℕ)) (l : NamedData) (files : List (List ℕ)) (p : PlacedData) (rows : List Row) (space : SpaceView)
    (granules : Granules) (extensions : Extensions) (remarks : List Remark) (warnings : List Data) (value : Data) (text : List ℕ)
    → rows ≡ rows_of l.launch files p → IsSpace paths l rows space → HasGranules l.launch p granules
    → extensions ≡ extensions_of (measured l.launch p (page_contents l.launch files p)) → warnings ≡ map remark_json remarks
    → value ≡ map_data l space granules extensions warnings → (has_float value ≡ false → text ≡ compact_text value ++ codes "\n")
    → IsMap paths l files p text
shown-map paths l files p rows space granules extensions remarks warnings value text placed is_space has counted all made shown =
    record {
      taken = is_space.taken;
      between = is_space.between;
      granules = granules;
      warnings = remarks;
      rising = subst (λ (rs : List Row). AreRising (map row_pages rs) is_space.taken) placed is_space.rising;
      around = is_space.around;
      counted = has;
      shown = shown (ap has_float whole ∙ no-float paths l (rows_of l.launch files p) is_space.taken is_space.between granules parts remarks)
          ∙ ap (λ (v : Data). compact_text v ++ codes "\n") whole;
    }
  where
    parts : Extensions
    parts = extensions_of (measured l.launch p (page_contents l.launch files p))

    whole : value ≡ map_data l (space_of paths l (rows_of l.launch files p) is_space.taken is_space.between) granules parts (map remark_json remarks)
    whole =
        made
        ∙ ap (λ (s : SpaceView). map_data l s granules extensions warnings)
        (is_space.is ∙ ap (λ (rs : List Row). space_of paths l rs is_space.taken is_space.between) placed)
        ∙ ap (λ (e : Extensions). map_data l (space_of paths l (rows_of l.launch files p) is_space.taken is_space.between) granules e warnings) counted
        ∙ ap (λ (ds : List Data). map_data l (space_of paths l (rows_of l.launch files p) is_space.taken is_space.between) granules parts ds) all

-- The map of a launch as JSON. Members are in the order of their keys. This project's choice.
use Rattle.std.specs.Prelude.{◌≡◌, ◌-◌, ◌/◌, ℕ, List, [], ◌∷◌, ◌++◌, codes, length, map, None}
use Rattle.serde_json.specs.Data.{Data, array, member, no_members, object, string}
use Rattle.serde_json.specs.View.{items_of}
use Rattle.serde_json.specs.Written.{compact_text}
use Rattle.rim_desc.specs.Measurement.{algo_word}
use Rattle.rim_desc.specs.declared.page.TheConstants.{PAGE_SIZE}
use Rattle.rim_launch.specs.declared.config.Config.{Config}
use Rattle.rim_launch.specs.declared.item.Region.{Region}
use Rattle.ipa_layout.specs.Layout.{PlacedData}
use Rattle.rmi_list.specs.Measured.{measured, page_contents}
use Rattle.rim_manifest.specs.Launches.{NamedData, item_name}
use Rattle.launch_json.specs.Items.{count, items_json, rule_json, stretch_json}
use Rattle.map_rows.specs.Extensions.{extensions_of}
use Rattle.map_rows.specs.Granules.{HasGranules}
use Rattle.map_rows.specs.Rows.{rows_of}
use Rattle.map_rows.specs.Stretches.{AreRising, IsBetween, gaps_of, row_pages}
use Rattle.map_rows.specs.declared.extensions.Extensions.{Extensions}
use Rattle.map_rows.specs.declared.granules.Granules.{Granules}
use Rattle.map_rows.specs.declared.rows.Row.{Row}
use Rattle.map_rows.specs.declared.stretches.Stretch.{Stretch}
use Rattle.shown_text.specs.RemarkJson.{remark_json}
use Rattle.shown_text.specs.declared.remark.Remark.{Remark}

-- a region, with the gaps between its items where items take these stretches
unfoldable pub region_json : List Stretch → Region → Data
region_json taken r =
    object (member (codes "base") (count r.base) (member (codes "end") (count r.end)
    (member (codes "gaps") (array (items_of (map stretch_json (gaps_of r.base r.end taken))))
    (member (codes "pages") (count ((r.end - r.base) / PAGE_SIZE)) no_members))))

abbrev pub regions_json : List Stretch → List Region → List Data
regions_json taken ram = map (region_json taken) ram

unfoldable pub granules_json : Config → Granules → Data
granules_json c g =
    object (member (codes "auxiliary") (count g.auxiliary) (member (codes "delegated") (count g.delegated)
    (member (codes "descriptors") (count g.descriptors) (member (codes "pages") (count g.pages) (member (codes "pool_base") (count c.pool_base) (member (codes "pool_count") (count c.pool_count)
    (member (codes "recs") (count g.recs) (member (codes "start_tables") (count g.start_tables)
    (member (codes "tables") (array (items_of (count g.tables_1 ∷ count g.tables_2 ∷ count g.tables_3 ∷ []))) no_members)))))))))

unfoldable pub extensions_json : Extensions → Data
extensions_json e =
    object (member (codes "pages") (count e.pages) (member (codes "realms") (count e.realms) (member (codes "recs") (count e.recs)
    (member (codes "ripas") (count e.ripas) (member (codes "total") (count e.total) (member (codes "unmeasured") (count e.unmeasured) no_members))))))

-- what a map shows of a launch's address space
pub record SpaceView : Type 0 where
  pub gaps : List Data
  pub items : List Data
  pub regions : List Data

-- what a launch is
unfoldable pub launch_json : NamedData → Data
launch_json l =
    object (member (codes "algorithm") (string (algo_word l.launch.config.algo)) (member (codes "block_level") (count l.launch.config.block_level)
    (member (codes "name") (string l.name) (member (codes "rec_rule") (rule_json l.launch.config.rec_rule)
    (member (codes "recs") (count (length l.launch.recs)) (member (codes "s2sz") (count l.launch.config.s2sz) no_members))))))

-- the map of a launch that is accepted, with its warnings
unfoldable pub map_data : NamedData → SpaceView → Granules → Extensions → List Data → Data
map_data l space granules extensions warnings =
    object (member (codes "extensions") (extensions_json extensions) (member (codes "gaps") (array (items_of space.gaps))
    (member (codes "granules") (granules_json l.launch.config granules) (member (codes "items") (array (items_of space.items))
    (member (codes "launch") (launch_json l) (member (codes "regions") (array (items_of space.regions)) (member (codes "version") (count 1)
    (member (codes "warnings") (array (items_of warnings)) no_members))))))))

-- the address space of a launch whose items have these places, where files have these paths; their pages take these stretches, and
-- these gaps are between its regions
abbrev pub space_of : List (List ℕ) → NamedData → List Row → List Stretch → List Stretch → SpaceView
space_of paths l rows taken between = record {
  gaps = map stretch_json between;
  items = items_json None (item_name l) paths l.launch.items rows;
  regions = regions_json taken l.launch.ram;
}

-- A text is the map of a launch that is accepted, with its place, where files have these paths. Its warnings are the lines of some remarks.
pub record IsMap (paths : List (List ℕ)) (l : NamedData) (files : List (List ℕ)) (p : PlacedData) (text : List ℕ) : Type 0 where
  pub taken : List Stretch
  pub between : List Stretch
  pub granules : Granules
  pub warnings : List Remark
  pub rising : AreRising (map row_pages (rows_of l.launch files p)) taken
  pub around : IsBetween l.launch.ram between
  pub counted : HasGranules l.launch p granules
  pub shown : text ≡ compact_text (map_data l (space_of paths l (rows_of l.launch files p) taken between) granules
      (extensions_of (measured l.launch p (page_contents l.launch files p))) (map remark_json warnings)) ++ codes "\n"

-- What a launch's table says, as its values at the keys read. This project's choice.
use Rattle.std.specs.Prelude.{◌≡◌, ℕ, true, false, List, [], length, map, Some, codes, refl, slice_get, unwrap_or}
use Rattle.std.specs.List.{enumerate_from}
use Rattle.toml.specs.Data.{Data, at, get}
use Rattle.rim_launch.specs.LaunchData.{LaunchData, has_files}
use Rattle.rim_launch.specs.declared.config.Config.{Config}
use Rattle.rim_launch.specs.declared.item.Item.{Item}
use Rattle.rim_launch.specs.declared.item.Region.{Region}
use Rattle.rim_launch.specs.declared.rec.Rec.{Rec}
use Rattle.rim_rules.specs.Forms.{is_region}
use Rattle.rim_rules.specs.Items.{item_of}
use Rattle.rim_rules.specs.Names.{name_of}
use Rattle.rim_manifest.specs.StepTexts.{steps_in}
use Rattle.rim_rules.specs.declared.version.FormatVersion.{FormatVersion}
use Rattle.rim_rules.specs.Versions.{rule_for}
use Rattle.rim_rules.specs.Values.{algorithm_in, array_at, base_in, digits_in, number_in, text_in, truth_in, whole_in, word_in, words_in}
use Rattle.rim_rules.specs.inside.NumberRanges.{base_aligned, base_low, number_from, number_to, number_within, region_if}
use Rattle.rim_desc.specs.Numbers.{Number, numbers_from, rmm_1_0}
use Rattle.rim_desc.specs.declared.numbers.RealmNumbers.{RealmNumbers}
use Rattle.rim_desc.specs.declared.rec.TheConstants.{AUX_LIMIT}
use Rattle.rim_launch.specs.declared.config.TheConstants.{POOL_LIMIT}
use Rattle.rmm_model.specs.declared.start.TheConstants.{LEAST_WIDTH, MOST_WIDTH}

-- a launch, its name and the names of its items, as clauses see them
pub record NamedData : Type 0 where
  pub name : List ℕ
  pub launch : LaunchData
  pub item_names : List (List ℕ)

-- the name of the item of this number; no text where there is none
abbrev pub item_name : NamedData → ℕ → List ℕ
item_name l number = unwrap_or (slice_get l.item_names number) []

-- a release, as clauses see it: the paths of its files, and its launches
pub record ReleaseData : Type 0 where
  pub paths : List (List ℕ)
  pub launches : List NamedData

-- each launch has its place among the launches as its number, and the release has the files of its items
abbrev pub AreNumbered : ReleaseData → Type 0
AreNumbered r = (i : ℕ) (l : NamedData) → slice_get r.launches i ≡ Some l → (l.launch.number ≡ i) × (has_files l.launch (length r.paths) ≡ true)

-- the number of a row, at the key of its name
abbrev pub number_of : Data → Number → ℕ
number_of d row = number_in 0 row.most 0 (get row.name d)

abbrev pub numbers_of : Data → RealmNumbers
numbers_of d = numbers_from (map (number_of d) rmm_1_0)

-- the configuration, and why each of its numbers is in range
unfoldable pub config_of : FormatVersion → Data → Config
config_of v d = record {
  algo = algorithm_in (get (codes "algo") d);
  s2sz = number_in LEAST_WIDTH MOST_WIDTH LEAST_WIDTH (get (codes "s2sz") d);
  sve = truth_in false (get (codes "sve") d);
  pmu = truth_in false (get (codes "pmu") d);
  numbers = numbers_of d;
  rpv = digits_in (get (codes "rpv") d);
  block_level = number_in 0 3 2 (get (codes "block_level") d);
  num_aux = number_in 0 AUX_LIMIT 0 (get (codes "num_aux") d);
  rec_rule = rule_for v (get (codes "rec_rule") d);
  pool_base = base_in (get (codes "pool_base") d);
  pool_count = number_in 1 POOL_LIMIT POOL_LIMIT (get (codes "pool_count") d);
  width = number_within LEAST_WIDTH MOST_WIDTH LEAST_WIDTH (get (codes "s2sz") d) refl;
  level = number_to 0 3 2 (get (codes "block_level") d) refl;
  aux = number_to 0 AUX_LIMIT 0 (get (codes "num_aux") d) refl;
  pool_aligned = base_aligned (get (codes "pool_base") d);
  pool_low = base_low (get (codes "pool_base") d);
  pool_fits = (number_from 1 POOL_LIMIT POOL_LIMIT (get (codes "pool_count") d) refl, number_to 1 POOL_LIMIT POOL_LIMIT (get (codes "pool_count") d) refl);
}

-- the region of two addresses
unfoldable pub region_of : ℕ → ℕ → Region
region_of base end = region_if base end (is_region base end) refl

-- the region of a pair of addresses
abbrev pub region_in : Data → Region
region_in d = region_of (whole_in (at 0 d)) (whole_in (at 1 d))

abbrev pub rec_of : Data → Rec
rec_of d = record {
  pc = word_in (get (codes "pc") d);
  x = words_in (get (codes "x") d);
  runnable = truth_in true (get (codes "runnable") d);
}

abbrev pub ram_of : Data → List Region
ram_of d = map region_in (array_at (codes "ram") d)

abbrev pub recs_of : Data → List Rec
recs_of d = map rec_of (array_at (codes "rec") d)

abbrev pub items_of : List Data → Data → List Item
items_of files d = map (item_of files) (array_at (codes "item") d)

-- a launch by its number and its table, in a manifest of this version, where the files are these
abbrev pub launch_of : FormatVersion → List Data → ℕ → Data → NamedData
launch_of v files number d = record {
  name = text_in (get (codes "name") d);
  launch = record {
    number = number;
    config = config_of v d;
    ram = ram_of d;
    items = items_of files d;
    recs = recs_of d;
    steps = steps_in (length (ram_of d)) (array_at (codes "item") d) (items_of files d) (length (recs_of d)) (get (codes "steps") d);
  };
  item_names = map name_of (array_at (codes "item") d);
}

-- launches of such a manifest, of which the first has the number n
abbrev pub launches_from : FormatVersion → List Data → ℕ → List Data → List NamedData
launches_from v files n ds = map (λ p. launch_of v files p.0 p.1) (enumerate_from n ds)

-- Where in a manifest its tables are. This project's choice.
use Rattle.std.specs.Prelude.{ℕ, List, Option, Some, None, option_and_then, codes}
use Rattle.std.specs.List.{slice_get}
use Rattle.toml.specs.Data.{Data, table, Members}
use Rattle.rim_manifest.specs.Manifest.{files_at, launches_at}
use Rattle.rim_rules.specs.Values.{array_at}
use Rattle.rim_manifest.specs.declared.finding.Array.{Array}
use Rattle.rim_manifest.specs.declared.finding.Array.TheVariants.{Files, Launches, Items, Recs}
use Rattle.rim_manifest.specs.declared.finding.Place.{Place}
use Rattle.rim_manifest.specs.declared.finding.Place.TheVariants as place

-- the table of a number in an array of tables
abbrev pub place_at : Array → ℕ → Place
place_at Files number = place.File number
place_at Launches number = place.Launch number
place_at (Items launch) number = place.Item launch number
place_at (Recs launch) number = place.Rec launch number

-- the table that a value is, if it is one
abbrev pub table_of : Option Data → Option Members
table_of (Some (table ms)) = Some ms
table_of _ = None

-- the value of a number in the array at a key of a launch
abbrev pub in_launch : Members → List ℕ → ℕ → ℕ → Option Data
in_launch ms key launch number = option_and_then (λ d. slice_get (array_at key d) number) (slice_get (launches_at ms) launch)

-- the table at a place of a manifest, if there is one
abbrev pub table_at : Members → Place → Option Members
table_at ms place.Top = Some ms
table_at ms (place.File file) = table_of (slice_get (files_at ms) file)
table_at ms (place.Launch launch) = table_of (slice_get (launches_at ms) launch)
table_at ms (place.Item launch item) = table_of (in_launch ms (codes "item") launch item)
table_at ms (place.Rec launch rec) = table_of (in_launch ms (codes "rec") launch rec)

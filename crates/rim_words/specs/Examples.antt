-- Examples of command lines, read by the definition of `clap`. This project's choice.
use Rattle.std.specs.Prelude.{◌≡◌, ℕ, Bool, true, false, List, [], ◌∷◌, Option, Some, None, codes, filter, map, option_map}
use Rattle.std.specs.List.{list_all, list_any}
use Rattle.clap.specs.Words.{Rule, Text, first_of, subcommand_of, takes}
use Rattle.rim_words.specs.Command.{AsksForHelp, CountsWorkers, IsMistaken, commands, format_of, is_set, rim}
use Rattle.rim_words.specs.declared.words.Format.{Format}
use Rattle.rim_words.specs.declared.words.Format.TheVariants as format

abbrev pub plain : List Text
plain = codes "rim" ∷ codes "measure" ∷ codes "manifest.toml" ∷ []

abbrev pub with_seven : List Text
with_seven = codes "rim" ∷ codes "measure" ∷ codes "--workers=7" ∷ codes "manifest.toml" ∷ []

abbrev pub with_json : List Text
with_json = codes "rim" ∷ codes "measure" ∷ codes "manifest.toml" ∷ codes "--json" ∷ []

abbrev pub a_trace : List Text
a_trace = codes "rim" ∷ codes "trace" ∷ codes "manifest.toml" ∷ codes "small" ∷ []

abbrev pub a_map : List Text
a_map = codes "rim" ∷ codes "map" ∷ codes "manifest.toml" ∷ codes "small" ∷ codes "--json" ∷ []

abbrev pub a_listing : List Text
a_listing = codes "rim" ∷ codes "list" ∷ codes "manifest.toml" ∷ codes "small" ∷ []

abbrev pub a_placed_devicetree : List Text
a_placed_devicetree = codes "rim" ∷ codes "dtb" ∷ codes "manifest.toml" ∷ codes "small" ∷ []

-- the output goes to a file, and a fault is explained
abbrev pub to_a_file : List Text
to_a_file = codes "rim" ∷ codes "audit" ∷ codes "--explain" ∷ codes "-o" ∷ codes "report.txt" ∷ codes "manifest.toml" ∷ []

-- a listing of no launch
abbrev pub too_few : List Text
too_few = codes "rim" ∷ codes "list" ∷ codes "manifest.toml" ∷ []

abbrev pub too_many : List Text
too_many = codes "rim" ∷ codes "measure" ∷ codes "manifest.toml" ∷ codes "--workers" ∷ codes "65" ∷ []

-- the flag takes no value
abbrev pub json_with_value : List Text
json_with_value = codes "rim" ∷ codes "measure" ∷ codes "manifest.toml" ∷ codes "--json=no" ∷ []

-- the smallest run of a subcommand: each operand that has to be given is there
abbrev pub smallest_run : Text × List Rule → List Text
smallest_run c = codes "rim" ∷ c.0 ∷ map (λ a. a.id) (filter (λ a. a.required) c.1)

-- command lines of the program, and words that are none
abbrev pub taken : List (List Text)
taken = plain ∷ with_seven ∷ with_json ∷ a_listing ∷ a_trace ∷ a_map ∷ a_placed_devicetree ∷ to_a_file ∷ map smallest_run commands

abbrev pub not_taken : List (List Text)
not_taken = too_many ∷ json_with_value ∷ too_few ∷ (codes "rim" ∷ codes "help" ∷ []) ∷ (codes "rim" ∷ []) ∷ []

abbrev pub TakesExamples : Type 0
TakesExamples = (list_all (takes rim) taken ≡ true) × (list_any (takes rim) not_taken ≡ false)

-- the texts of the path and of the workers that the words hold
abbrev pub read_in : List Text → Option (Option Text × Option Text)
read_in words = option_map (λ p. (first_of (codes "path") p.1, first_of (codes "workers") p.1)) (subcommand_of rim words)

-- the texts of the path and of the launch that the words hold
abbrev pub launch_in : List Text → Option (Option Text × Option Text)
launch_in words = option_map (λ p. (first_of (codes "path") p.1, first_of (codes "launch") p.1)) (subcommand_of rim words)

-- the format of the report that the words ask for
abbrev pub format_in : List Text → Option Format
format_in words = option_map (λ p. format_of (first_of (codes "json") p.1)) (subcommand_of rim words)

-- the text of the output that the words hold, and whether they ask for an explanation
abbrev pub output_in : List Text → Option (Option Text × Bool)
output_in words = option_map (λ p. (first_of (codes "output") p.1, is_set (first_of (codes "explain") p.1))) (subcommand_of rim words)

abbrev pub ReadsExamples : Type 0
ReadsExamples = (read_in plain ≡ Some (Some (codes "manifest.toml"), None))
    × (read_in with_seven ≡ Some (Some (codes "manifest.toml"), Some (codes "7")))
    × (launch_in a_listing ≡ Some (Some (codes "manifest.toml"), Some (codes "small")))
    × (launch_in a_trace ≡ Some (Some (codes "manifest.toml"), Some (codes "small")))
    × (launch_in a_map ≡ Some (Some (codes "manifest.toml"), Some (codes "small"))) × (format_in a_map ≡ Some format.Json)
    × (launch_in a_placed_devicetree ≡ Some (Some (codes "manifest.toml"), Some (codes "small")))
    × (output_in to_a_file ≡ Some (Some (codes "report.txt"), true)) × (output_in plain ≡ Some (None, false))
    × (format_in plain ≡ Some format.Text) × (format_in with_json ≡ Some format.Json)
    × ((n : ℕ) → CountsWorkers None n → n ≡ 4) × ((n : ℕ) → CountsWorkers (Some (codes "7")) n → n ≡ 7)

-- help and the version are asked for, and not a mistake; too many workers, a flag with a value, a listing of no launch, another subcommand and none are
abbrev pub RefusesExamples : Type 0
RefusesExamples = AsksForHelp (codes "rim" ∷ codes "--help" ∷ []) × AsksForHelp (codes "rim" ∷ codes "measure" ∷ codes "--help" ∷ [])
    × AsksForHelp (codes "rim" ∷ codes "--version" ∷ []) × IsMistaken too_many × IsMistaken json_with_value × IsMistaken too_few × IsMistaken (codes "rim" ∷ codes "print" ∷ []) × IsMistaken (codes "rim" ∷ [])

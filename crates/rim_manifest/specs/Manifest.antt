-- What a manifest describes, or the lowest fault that holds anywhere in it. This project's choice;
-- which document a text is, is TOML's, as the library `toml` defines it.
use Rattle.std.specs.Prelude.{ℕ, Bool, not, ◌||◌, List, [], ◌++◌, map, Option, Some, None, Result, Ok, Err, codes, if◌then◌else◌}
use Rattle.std.specs.List.{flat_map, list_all, list_any}
use Rattle.std.specs.Str.{is_utf8, bytes_eq}
use Rattle.toml.specs.Data.{Data, table, Members, get, get_member}
use Rattle.toml.specs.Parse.{parse_document}
use Rattle.rim_manifest.specs.declared.fault.ManifestFault.{ManifestFault}
use Rattle.rim_manifest.specs.declared.fault.ManifestFault.TheVariants.{Syntax, Version, MissingKey, TwoNames, NoSuchFile, BadStep}
use Rattle.rim_launch.specs.LaunchData.{is_launch}
use Rattle.rim_manifest.specs.Faults.{fault_if, lowest}
use Rattle.rim_rules.specs.Forms.{items_in}
use Rattle.rim_rules.specs.Names.{has_asked, lacks_file, repeats, role_at, share_names}
use Rattle.rim_rules.specs.Rules.{file_rules, rec_rules, top_rules}
use Rattle.rim_rules.specs.Kinds.{rules_of}
use Rattle.rim_manifest.specs.StepTexts.{has_bad_steps}
use Rattle.rim_rules.specs.Values.{array_at, text_in}
use Rattle.rim_rules.specs.declared.version.FormatVersion.{FormatVersion}
use Rattle.rim_rules.specs.Versions.{has_version, lacks_rule, launch_rules_in, version_at}
use Rattle.rim_manifest.specs.Checks.{ruled_faults, table_faults}
use Rattle.rim_manifest.specs.Launches.{NamedData, ReleaseData, launches_from}

-- the document that some bytes are
unfoldable pub document_of : List ℕ → Option Members
document_of bytes = if is_utf8 bytes then parse_document bytes else None

-- the values in the arrays of launches and of files
abbrev pub launches_at : Members → List Data
launches_at ms = items_in (get_member (codes "launch") ms)

abbrev pub files_at : Members → List Data
files_at ms = items_in (get_member (codes "file") ms)

-- the launches that a document without faults in its tables describes, numbered from 0
abbrev pub launches_of : Members → List NamedData
launches_of ms = launches_from (version_at ms) (files_at ms) 0 (launches_at ms)

abbrev pub path_of : Data → List ℕ
path_of d = text_in (get (codes "path") d)

-- the paths of its files
abbrev pub paths_of : Members → List (List ℕ)
paths_of ms = map path_of (files_at ms)

-- ---- the faults of the tables, each by itself

-- an item has the keys of its kind
abbrev pub item_faults : Data → List ManifestFault
item_faults d = ruled_faults (rules_of (role_at d)) d

-- the faults of a launch's table and of the tables of its items and RECs, an edit without what it asks for, and a REC
-- without the rule that it asks for
unfoldable pub launch_faults : FormatVersion → Data → List ManifestFault
launch_faults v (table ms) =
    table_faults (launch_rules_in v) ms
    ++ (flat_map item_faults (array_at (codes "item") (table ms))
    ++ (flat_map (ruled_faults rec_rules) (array_at (codes "rec") (table ms))
    ++ (fault_if (not (has_asked (table ms))) MissingKey
    ++ fault_if (lacks_rule v (table ms)) MissingKey)))
launch_faults v _ = []

-- the faults of the tables, each where it holds
unfoldable pub manifest_faults : Members → List ManifestFault
manifest_faults ms =
    fault_if (not (has_version (get_member (codes "rim_manifest") ms))) Version
    ++ (table_faults top_rules ms
    ++ (flat_map (ruled_faults file_rules) (files_at ms)
    ++ flat_map (launch_faults (version_at ms)) (launches_at ms)))

-- ---- the faults of names and of steps, where no table has a fault

-- two files, two launches, or two items of a launch share a name; or two items a kind other than raw and unknown
abbrev pub has_two_names : Members → Bool
has_two_names ms = share_names (files_at ms) || share_names (launches_at ms) || list_any repeats (launches_at ms)

-- an item needs a file and names none
abbrev pub has_no_file : Members → Bool
has_no_file ms = list_any (lacks_file (files_at ms)) (launches_at ms)

-- the faults of names, of files and of steps, by whether each holds
abbrev pub name_faults_if : Bool → Bool → Bool → List ManifestFault
name_faults_if two_names no_file bad_step = fault_if two_names TwoNames ++ (fault_if no_file NoSuchFile ++ fault_if bad_step BadStep)

unfoldable pub name_faults : Members → List ManifestFault
name_faults ms = name_faults_if (has_two_names ms) (has_no_file ms) (has_bad_steps (launches_at ms))

-- all faults that hold anywhere in a document
abbrev pub all_faults : Members → List ManifestFault
all_faults ms = manifest_faults ms ++ name_faults ms

-- the name of a launch
abbrev pub name_in : List ℕ → NamedData → Bool
name_in name l = bytes_eq l.name name

-- a launch, where its type has it: its conditions hold
abbrev pub made : NamedData → Result NamedData ManifestFault
made l = if is_launch l.launch then Ok l else Err BadStep

-- launches, where the type has them all
abbrev pub all_made : List NamedData → Result (List NamedData) ManifestFault
all_made ls = if list_all (λ l. is_launch l.launch) ls then Ok ls else Err BadStep

abbrev pub Answer : Type 0
Answer = Result ReleaseData ManifestFault

-- what a document without faults describes
abbrev pub release_of : Members → ReleaseData
release_of ms = record { paths = paths_of ms; launches = launches_of ms }

abbrev pub fault_or_release : Members → Option ManifestFault → Answer
fault_or_release ms (Some fault) = Err fault
fault_or_release ms None = Ok (release_of ms)

-- what a document without faults in its tables is read as
abbrev pub named_of : Members → Answer
named_of ms = fault_or_release ms (lowest (name_faults ms))

abbrev pub fault_or_named : Members → Option ManifestFault → Answer
fault_or_named ms (Some fault) = Err fault
fault_or_named ms None = named_of ms

-- what a document is read as
abbrev pub read_of : Members → Answer
read_of ms = fault_or_named ms (lowest (manifest_faults ms))

abbrev pub answer_of : Option Members → Answer
answer_of None = Err Syntax
answer_of (Some ms) = read_of ms

-- what the manifest in some bytes is read as
abbrev pub manifest_of : List ℕ → Answer
manifest_of bytes = answer_of (document_of bytes)

-- The command line of `rim`, this project's choice, in the words of `clap`'s definition for simple
-- commands; and what the words of a command line ask for.
use Rattle.std.specs.Prelude.{◌≡◌, ◌≢◌, ◌≤◌, ⊤, ℕ, Bool, true, false, not, pos, List, [], ◌∷◌, Option, Some, None, codes, fold, is_some, option_map, if◌then◌else◌}
use Rattle.std.specs.List.{list_all}
use Rattle.std.specs.Str.{bytes_eq}
use Rattle.std.specs.Str.Parse.{digits_value, without_leading_plus}
use Rattle.clap.specs.Words.{App, IsAmong, Kinds, Row, Rule, Text, fault_of, first_of, kind_of, new_app, new_rule, subcommand_of, with_subcommand}
use Rattle.clap.specs.Simple.{new_shape, on_top}
use Rattle.clap.specs.declared.builder.action.ArgAction.TheVariants.{SetTrue}
use Rattle.clap.specs.declared.builder.value_parser.ValueParser.TheVariants as parser
use Rattle.clap.specs.declared.error.kind.ErrorKind.{ErrorKind}
use Rattle.clap.specs.declared.error.kind.ErrorKind.TheVariants as kind
use Rattle.rim_words.specs.declared.words.Ask.{Ask}
use Rattle.rim_words.specs.declared.words.Ask.TheVariants as ask
use Rattle.rim_words.specs.declared.words.ManifestAsk.{ManifestAsk}
use Rattle.rim_words.specs.declared.words.ManifestAsk.TheVariants.{Measure, Audit, Check}
use Rattle.rim_words.specs.declared.words.LaunchAsk.{LaunchAsk}
use Rattle.rim_words.specs.declared.words.LaunchAsk.TheVariants.{List as Lists, Trace, Map, Dtb}
use Rattle.rim_words.specs.declared.words.FileAsk.TheVariants.{Replay, Image, Fdt}
use Rattle.rim_words.specs.declared.words.CommandFault.{CommandFault}
use Rattle.rim_words.specs.declared.words.CommandFault.TheVariants.{Usage, NoMemory}
use Rattle.rim_words.specs.declared.words.Format.{Format}
use Rattle.rim_words.specs.declared.words.Format.TheVariants as format
use Rattle.rim_words.specs.declared.words.Request.{Request}
use Rattle.job_core.specs.declared.machine.TheConstants.{WORKER_LIMIT}

-- an operand that has to be given, with a name that usage texts show
abbrev pub operand_rule : Text → Rule
operand_rule id = record (new_rule id) { required = true; value_names = 1 }

-- `--workers N`, a number from 1 to 64
abbrev pub workers_rule : Rule
workers_rule = record (new_rule (codes "workers")) {
  long = Some (codes "workers");
  value_names = 1;
  parser = Some (parser.Signed (pos 1) (pos WORKER_LIMIT));
}

-- a flag of this name, as `--json` and `--quiet`
abbrev pub flag_rule : Text → Rule
flag_rule id = record (new_rule id) { long = Some id; action = Some SetTrue }

-- the path of a manifest or of another file, and the name of a launch
abbrev pub path : Rule
path = operand_rule (codes "path")

abbrev pub launch : Rule
launch = operand_rule (codes "launch")

abbrev pub json : Rule
json = flag_rule (codes "json")

-- the path of the file that gets the output, `-o FILE` or `--output FILE`
abbrev pub output : Rule
output = record (new_rule (codes "output")) { short = Some 111; long = Some (codes "output"); value_names = 1 }

-- that a fault is explained
abbrev pub explain : Rule
explain = flag_rule (codes "explain")

-- the subcommands in their order, each with its arguments in theirs: `measure MANIFEST [--workers N] [--json]` and so on
abbrev pub commands : List (Text × List Rule)
commands = (codes "measure", path ∷ workers_rule ∷ json ∷ output ∷ explain ∷ [])
    ∷ (codes "list", path ∷ launch ∷ output ∷ explain ∷ [])
    ∷ (codes "trace", path ∷ launch ∷ output ∷ explain ∷ [])
    ∷ (codes "map", path ∷ launch ∷ json ∷ output ∷ explain ∷ [])
    ∷ (codes "audit", path ∷ output ∷ explain ∷ [])
    ∷ (codes "check", path ∷ flag_rule (codes "quiet") ∷ json ∷ output ∷ [])
    ∷ (codes "dtb", path ∷ launch ∷ output ∷ explain ∷ [])
    ∷ (codes "replay", path ∷ explain ∷ [])
    ∷ (codes "image", path ∷ explain ∷ [])
    ∷ (codes "fdt", path ∷ explain ∷ [])
    ∷ []

-- a command with one subcommand more, of this name and these arguments
abbrev pub with_command : App → Text × List Rule → App
with_command app c = with_subcommand app (record (new_shape c.0) { rules = c.1 })

-- the program: one of its subcommands has to be given, and it has a version. `clap` adds `help`, which shows a text
abbrev pub rim : App
rim = on_top (λ s. record s { has_version = true; subcommand_required = true })
    (fold with_command (new_app (codes "rim")) commands)

-- a number of workers that a run may have: from 1 to 64
abbrev pub IsCrew : ℕ → Type 0
IsCrew n = (1 ≤ n) × (n ≤ WORKER_LIMIT)

-- the number of workers, 4 where none is given: in words that `clap` takes it is from 1 to 64
abbrev pub CountsWorkers : Option Text → ℕ → Type 0
CountsWorkers None n = n ≡ 4
CountsWorkers (Some text) n = (n ≡ digits_value 10 (without_leading_plus text)) × IsCrew n

-- a request for a report has 1 to 64 workers
abbrev pub HasCrew : Ask → Type 0
HasCrew (ask.Manifest (Measure workers format)) = IsCrew workers
HasCrew _ = ⊤

-- whether the words have a flag, by the value that `clap` gives it: `true` where they have it, and else `false`
abbrev pub is_set : Option Text → Bool
is_set None = false
is_set (Some text) = bytes_eq text (codes "true")

-- the format that is asked for, by the flag `--json`
abbrev pub format_of : Option Text → Format
format_of flag = if is_set flag then format.Json else format.Text

-- the subcommand that asks for this
abbrev pub verb_of : Ask → Text
verb_of (ask.Manifest (Measure workers format)) = codes "measure"
verb_of (ask.Manifest Audit) = codes "audit"
verb_of (ask.Manifest (Check quiet format)) = codes "check"
verb_of (ask.Launch name Lists) = codes "list"
verb_of (ask.Launch name Trace) = codes "trace"
verb_of (ask.Launch name (Map format)) = codes "map"
verb_of (ask.Launch name Dtb) = codes "dtb"
verb_of (ask.File Replay) = codes "replay"
verb_of (ask.File Image) = codes "image"
verb_of (ask.File Fdt) = codes "fdt"

-- what is asked of a manifest has what the matches of its subcommand hold
abbrev pub ReadsManifestAsk : List Row → ManifestAsk → Type 0
ReadsManifestAsk rows (Measure workers format) = CountsWorkers (first_of (codes "workers") rows) workers × (format ≡ format_of (first_of (codes "json") rows))
ReadsManifestAsk rows Audit = ⊤
ReadsManifestAsk rows (Check quiet format) = (quiet ≡ is_set (first_of (codes "quiet") rows)) × (format ≡ format_of (first_of (codes "json") rows))

-- the same of a launch
abbrev pub ReadsLaunchAsk : List Row → LaunchAsk → Type 0
ReadsLaunchAsk rows (Map format) = format ≡ format_of (first_of (codes "json") rows)
ReadsLaunchAsk rows _ = ⊤

-- the same of all that is asked
abbrev pub ReadsAsk : List Row → Ask → Type 0
ReadsAsk rows (ask.Manifest asked) = ReadsManifestAsk rows asked
ReadsAsk rows (ask.Launch name asked) = (first_of (codes "launch") rows ≡ Some name.now) × ReadsLaunchAsk rows asked
ReadsAsk rows (ask.File asked) = ⊤

-- the request is the one of a subcommand's name, and has what the matches of that subcommand hold
abbrev pub ReadsRow : Text → List Row → Request → Type 0
ReadsRow name rows request =
    (name ≡ verb_of request.ask) × (first_of (codes "path") rows ≡ Some request.path.now) × ReadsAsk rows request.ask
    × (first_of (codes "output") rows ≡ option_map (λ path. path.now) request.output) × (request.explain ≡ is_set (first_of (codes "explain") rows))

abbrev pub ReadsRequest : Option (Text × List Row) → Request → Type 0
ReadsRequest None request = ⊥
ReadsRequest (Some p) request = ReadsRow p.0 p.1 request

-- the words ask for bytes that are no text, as `dtb` alone does, and name no file that gets them
abbrev pub AsksForBytes : List Text → Type 0
AsksForBytes words = option_map {U = Text × Bool} (λ p. (p.0, is_some (first_of (codes "output") p.1))) (subcommand_of rim words) ≡ Some (codes "dtb", false)

-- help and the version are asked for; each other kind of error is a mistake in the words
abbrev pub is_asked : ErrorKind → Bool
is_asked kind.DisplayHelp = true
is_asked kind.DisplayVersion = true
is_asked _ = false

-- the words are refused, and each kind of error that they may be refused with passes the test
abbrev pub IsRefusedBy : (ErrorKind → Bool) → List Text → Type 0
IsRefusedBy test words = (fault_of rim words ≢ []) × (list_all test (fault_of rim words) ≡ true)

abbrev pub IsMistaken : List Text → Type 0
IsMistaken words = IsRefusedBy (λ k. not (is_asked k)) words

abbrev pub AsksForHelp : List Text → Type 0
AsksForHelp words = IsRefusedBy is_asked words

-- a refusal is of one of these kinds, where memory did not run out
abbrev pub IsRefusalOf : Kinds → CommandFault → Type 0
IsRefusalOf kinds (Usage error) = IsAmong (kind_of error) kinds
IsRefusalOf kinds NoMemory = Unit {0}

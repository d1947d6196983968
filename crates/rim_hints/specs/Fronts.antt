-- The place of a manifest's fault: where it is in the text, in the form that compilers have, and its table and its key. This project's choice.
use Rattle.std.specs.Prelude.{ℕ, ◌++◌, ◌&&◌, ◌==◌, not, nat_le, Bool, List, [], codes, decimal, length, Option, Some, None, option_and_then, option_map, if◌then◌else◌}
use Rattle.std.specs.List.{list_all}
use Rattle.toml.specs.Data.{Data, Members, get_member, string}
use Rattle.rim_manifest.specs.Places.{table_at}
use Rattle.rim_manifest.specs.declared.finding.Place.{Place}
use Rattle.rim_manifest.specs.declared.finding.Place.TheVariants as place
use Rattle.rim_manifest.specs.declared.finding.Subject.{Subject}
use Rattle.rim_manifest.specs.declared.finding.Subject.TheVariants as subject
use Rattle.rim_spot.specs.declared.spot.Spot.{Spot}

-- a line and a column, where they are known
abbrev pub spot_text : Option Spot → List ℕ
spot_text None = []
spot_text (Some spot) = codes ":" ++ (decimal spot.line ++ (codes ":" ++ decimal spot.column))

-- a byte that is shown as it is between double quotes
abbrev pub is_bare : ℕ → Bool
is_bare b = not (b == 34) && not (b == 92)

-- whether a name is shown as it is: it has at most 64 bytes, and no double quote and no `\`
abbrev pub is_bare_name : List ℕ → Bool
is_bare_name name = nat_le (length name) 64 && list_all is_bare name

-- a table by its name, or by its number where it has none; it is not known where its name is not shown as it is
abbrev pub named_text : List ℕ → ℕ → Option (List ℕ) → Option (List ℕ)
named_text word number (Some name) = if is_bare_name name then Some (word ++ (codes " \"" ++ (name ++ codes "\""))) else None
named_text word number None = Some (word ++ (codes " " ++ decimal number))

-- the text at the key `name` of the table at a place
abbrev pub text_of : Option Data → Option (List ℕ)
text_of (Some (string s)) = Some s
text_of _ = None

abbrev pub name_at : Members → Place → Option (List ℕ)
name_at ms p = option_and_then (λ table. text_of (get_member (codes "name") table)) (table_at ms p)

-- a table in a table
abbrev pub inner_text : Option (List ℕ) → Option (List ℕ) → Option (List ℕ)
inner_text outer own = option_and_then (λ front. option_map (λ end. front ++ end) own) outer

-- which table is at a place of a manifest
abbrev pub table_text : Members → Place → Option (List ℕ)
table_text ms place.Top = Some (codes "manifest")
table_text ms (place.File file) = named_text (codes "file") file (name_at ms (place.File file))
table_text ms (place.Launch launch) = named_text (codes "launch") launch (name_at ms (place.Launch launch))
table_text ms (place.Item launch item) =
    inner_text (named_text (codes "launch") launch (name_at ms (place.Launch launch))) (named_text (codes ", item") item (name_at ms (place.Item launch item)))
table_text ms (place.Rec launch rec) = inner_text (named_text (codes "launch") launch (name_at ms (place.Launch launch))) (named_text (codes ", rec") rec None)

-- a table and what is at fault in it, each after a colon
abbrev pub subject_text : Subject → List ℕ → List ℕ
subject_text (subject.Key key form) table = codes ": " ++ (table ++ (codes ": " ++ key.now))
subject_text (subject.Step step) table = codes ": " ++ (table ++ codes ": steps")
subject_text subject.Steps table = codes ": " ++ (table ++ codes ": steps")
subject_text _ table = codes ": " ++ table

-- the table and its key
abbrev pub place_text : Members → Place → Subject → Option (List ℕ)
place_text ms p s = option_map (subject_text s) (table_text ms p)

-- Files that a caller lends, by their paths. This project's choice.
use Rattle.std.specs.Prelude.{ℕ, Bool, List, ◌∷◌, Some, option_map}
use Rattle.std.specs.List.{find}
use Rattle.std.specs.Str.{bytes_eq}
use Rattle.rim_files.specs.Files.{Known}
use Rattle.rim_c.specs.declared.held.File.{File}

-- whether a file is at a path
abbrev pub is_at : List ℕ → File → Bool
is_at path file = bytes_eq file.path.now path

-- what is known of each path: the bytes of the first file there, or that there is none; the file that is asked about is before the others
abbrev pub held_in : File → List File → List ℕ → Known
held_in subject files path = Some (option_map (λ file. file.bytes.now) (find (is_at path) (subject ∷ files)))

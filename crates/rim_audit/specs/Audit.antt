-- The report of an audit. This project's choice.
use Rattle.std.specs.Prelude.{ℕ, List, ◌++◌, codes}
use Rattle.rim_manifest.specs.Launches.{NamedData}
use Rattle.rim_accepted.specs.Lines.{lines_of}

abbrev pub audit_text_of : List (List ℕ) → List NamedData → List ℕ
audit_text_of files ls = codes "rim-audit 1\n" ++ lines_of files ls

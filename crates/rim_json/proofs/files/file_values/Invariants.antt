use Rattle.std.proofs.Common.{◌≡◌, map, take}
use Rattle.serde_json.specs.View.{view}
use Rattle.ipa_layout.specs.Files.{bytes_of_files}
use Rattle.rim_json.specs.ReportJson.{files_json}
use Rattle.rim_json.proofs.files.file_values.Given as goal

abbrev pub invariant-loop-i : goal.invariant-loop-i
invariant-loop-i l = map view l.values.items ≡ files_json (take l.i l.release.paths) (take l.i (bytes_of_files l.files))

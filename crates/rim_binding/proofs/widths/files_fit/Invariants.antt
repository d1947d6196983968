use Rattle.std.proofs.Common.{ℕ, List, ◌<◌, get_or}
use Rattle.std.specs.List.{All}
use Rattle.ipa_layout.specs.Files.{bytes_of_files}
use Rattle.rmi_line.specs.Typed.{IsByte}
use Rattle.rim_binding.proofs.widths.files_fit.Given as goal

abbrev pub invariant-loop-file : goal.invariant-loop-file
invariant-loop-file l = (k : ℕ) (d : List ℕ) → k < l.file-index → All IsByte (get_or (bytes_of_files l.files) k d)

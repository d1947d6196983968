use Rattle.ipa_layout.specs.Files.{bytes_of_files}
use Rattle.rim_report.proofs.file_digests.measuring.measure_with_digests.Given as goal

-- the run's own files
abbrev pub ghosts-run : goal.ghosts-run
ghosts-run g a = record { files = bytes_of_files a.files.now.items }

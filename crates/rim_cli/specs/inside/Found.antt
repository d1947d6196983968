-- What a check has found. This project's choice.
use Rattle.std.specs.Prelude.{◌≡◌, ℕ, List, []}
use Rattle.shown_text.specs.Lines.{AddsLine, Saying, SayInTurn, file_said}
use Rattle.shown_text.specs.declared.remark.Remark.{Remark}
use Rattle.rim_cli.specs.Done.{Findings}
use Rattle.rim_files.specs.Files.{AreRead, Known}
use Rattle.rim_files.specs.Status.{word_of}
use Rattle.rim_cli.specs.Unread.{AreUnread}
use Rattle.rim_cli.specs.declared.checking.Checked.{Checked}
use Rattle.rim_files.specs.declared.fault.Fault.{Fault}

-- in the loop over the files of a release: a remark on each file at these paths that cannot be read; and where there is none, the bytes of each file
pub record AreFound (held : List ℕ → Known) (paths files : List (List ℕ)) (remarks : List Remark) : Type 0 where
  pub said : List Saying
  pub unread : AreUnread held paths said
  pub lines : SayInTurn said remarks
  pub read : said ≡ [] → AreRead held paths files

-- there is the remark on a file that cannot be read, with some hint
pub record HasRemark (path : List ℕ) (fault : Fault) (old new : List Remark) : Type 0 where
  pub hint : List ℕ
  pub adds : AddsLine (file_said path (word_of fault) hint) old new

-- its remarks
abbrev pub findings_of : Checked → Findings
findings_of c = record { faults = c.faults.items; warnings = c.warnings.items }

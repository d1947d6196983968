-- Exit statuses and the words of faults. This project's choice.
use Rattle.std.specs.Prelude.{ℕ, List, codes}
use Rattle.std.specs.declared.io.ErrorKind.{ErrorKind}
use Rattle.std.specs.declared.io.ErrorKind.TheVariants as error
use Rattle.rim_files.specs.declared.fault.Fault.{Fault}
use Rattle.rim_files.specs.declared.fault.Fault.TheVariants.{Manifest, NoSuchLaunch, Start, Refused, NoDevicetree, Show, FileUnreadable, FileTooLarge, OutputIsTerminal, OutputFailed, NoMemory}
use Rattle.rim_manifest.specs.Faults.{kind_of}
use Rattle.rim_manifest.specs.declared.fault.ManifestFault.TheVariants as manifest
use Rattle.rim_accepted.specs.AuditFaults.{audit_kind_of}
use Rattle.rim_pages.specs.Faults.{start_kind_of}
use Rattle.rim_show.specs.ShowFaults.{show_kind_of}
use Rattle.rim_accepted.specs.declared.audit_fault.AuditFault.TheVariants as audit
use Rattle.rim_show.specs.declared.fault.ShowFault.TheVariants as show
use Rattle.rim_pages.specs.declared.fault.StartFault.TheVariants as start

-- want of memory, wherever it was met, is 4; each other fault is 3
abbrev pub status_of : Fault → ℕ
status_of NoMemory = 4
status_of (Manifest manifest.NoMemory) = 4
status_of (Start start.NoMemory) = 4
status_of (Refused audit.NoMemory) = 4
status_of (Show show.NoMemory) = 4
status_of _ = 3

-- the word that a fault is printed as
abbrev pub word_of : Fault → List ℕ
word_of (Manifest fault) = kind_of fault
word_of (Start fault) = start_kind_of fault
word_of (Refused fault) = audit_kind_of fault
word_of (Show fault) = show_kind_of fault
word_of NoSuchLaunch = codes "no-such-launch"
word_of NoDevicetree = codes "no-devicetree"
word_of FileUnreadable = codes "file-unreadable"
word_of FileTooLarge = codes "file-too-large"
word_of OutputIsTerminal = codes "output-is-terminal"
word_of OutputFailed = codes "output-failed"
word_of NoMemory = codes "no-memory"

-- a command line that cannot be read is a mistake of usage, unless memory for its words was refused
abbrev pub unreadable_status : ErrorKind → ℕ
unreadable_status error.OutOfMemory = 4
unreadable_status _ = 2

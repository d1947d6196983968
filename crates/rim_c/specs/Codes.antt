-- The codes that calls end with. This project's choice: an answer has the exit status that the program has with it, 0, 1 or 3; each word that a
-- fault is printed as has a code of its own above these.
use Rattle.std.specs.Prelude.{ℕ}
use Rattle.arm64_image.specs.declared.ImageFault.{ImageFault}
use Rattle.arm64_image.specs.declared.ImageFault.TheVariants as image
use Rattle.fdt_header.specs.declared.fault.FdtFault.{FdtFault}
use Rattle.fdt_header.specs.declared.fault.FdtFault.TheVariants as fdt
use Rattle.ipa_layout.specs.declared.fault.LayoutFault.{LayoutFault}
use Rattle.ipa_layout.specs.declared.fault.LayoutFault.TheVariants as layout
use Rattle.rtt_plan.specs.declared.fault.PlanFault.{PlanFault}
use Rattle.rtt_plan.specs.declared.fault.PlanFault.TheVariants as plan
use Rattle.rmi_list.specs.declared.fault.ListFault.{ListFault}
use Rattle.rmi_list.specs.declared.fault.ListFault.TheVariants as list
use Rattle.rim_accepted.specs.declared.audit_fault.AuditFault.{AuditFault}
use Rattle.rim_accepted.specs.declared.audit_fault.AuditFault.TheVariants as audit
use Rattle.rim_manifest.specs.declared.fault.ManifestFault.{ManifestFault}
use Rattle.rim_manifest.specs.declared.fault.ManifestFault.TheVariants as manifest
use Rattle.rim_pages.specs.declared.fault.StartFault.{StartFault}
use Rattle.rim_pages.specs.declared.fault.StartFault.TheVariants as start
use Rattle.rim_show.specs.declared.fault.ShowFault.{ShowFault}
use Rattle.rim_show.specs.declared.fault.ShowFault.TheVariants as show
use Rattle.rim_files.specs.declared.fault.Fault.{Fault}
use Rattle.rim_files.specs.declared.fault.Fault.TheVariants.{Manifest, NoSuchLaunch, Start, Refused, NoDevicetree, Show, FileUnreadable, FileTooLarge, OutputIsTerminal, OutputFailed, NoMemory}
use Rattle.rim_c.specs.declared.codes.TheConstants.{NO_MEMORY, NO_FILE, FILE_TOO_LARGE, NO_SUCH_LAUNCH, NO_DEVICETREE, TOO_MANY_PAGES, NEVER}

abbrev pub manifest_code : ManifestFault → ℕ
manifest_code manifest.Syntax = 20
manifest_code manifest.Version = 21
manifest_code manifest.WrongKind = 22
manifest_code manifest.UnknownKey = 23
manifest_code manifest.MissingKey = 24
manifest_code manifest.Limit = 25
manifest_code manifest.Range = 26
manifest_code manifest.TwoNames = 27
manifest_code manifest.NoSuchFile = 28
manifest_code manifest.BadStep = 29
manifest_code manifest.NoMemory = NO_MEMORY

abbrev pub image_code : ImageFault → ℕ
image_code image.Short = 40
image_code image.BadMagic = 41

abbrev pub devicetree_code : FdtFault → ℕ
devicetree_code fdt.Short = 50
devicetree_code fdt.BadMagic = 51
devicetree_code fdt.BadVersion = 52
devicetree_code fdt.BadBlock = 53
devicetree_code fdt.BadReserve = 54
devicetree_code fdt.BadToken = 55
devicetree_code fdt.BadName = 56
devicetree_code fdt.BadString = 57
devicetree_code fdt.LateProperty = 58
devicetree_code fdt.TooDeep = 59
devicetree_code fdt.BadCells = 60
devicetree_code fdt.TooLarge = 61
devicetree_code fdt.NoMemory = NO_MEMORY

abbrev pub layout_code : LayoutFault → ℕ
layout_code (layout.Kernel fault) = image_code fault
layout_code (layout.Dtb fault) = devicetree_code fault
layout_code layout.Unaligned = 70
layout_code layout.KernelBase = 71
layout_code layout.OutsideRam = 72
layout_code layout.Overlap = 73
layout_code layout.InitrdWindow = 74
layout_code layout.Size = 75
layout_code layout.NoMemory = NO_MEMORY

abbrev pub plan_code : PlanFault → ℕ
plan_code plan.OutsideProtected = 80
plan_code plan.Unaligned = 81
plan_code plan.RipasTwice = 82
plan_code plan.NotRam = 83
plan_code plan.DataTwice = 84
plan_code plan.TooManyEntries = 85
plan_code plan.NoMemory = NO_MEMORY

abbrev pub list_code : ListFault → ℕ
list_code (list.Plan fault) = plan_code fault
list_code list.PoolEnd = 90
list_code list.TooManyRecs = 91
list_code list.RecOrder = 92
list_code list.RecNotRunnable = 93
list_code list.NoMemory = NO_MEMORY

-- why a launch is refused
abbrev pub refusal_code : AuditFault → ℕ
refusal_code (audit.Layout fault) = layout_code fault
refusal_code (audit.List fault) = list_code fault
refusal_code audit.NoMemory = NO_MEMORY

abbrev pub show_code : ShowFault → ℕ
show_code (show.Image fault) = image_code fault
show_code (show.Dtb fault) = devicetree_code fault
show_code show.NoMemory = NO_MEMORY

-- no number of workers is asked for, and nothing is put out by a call
abbrev pub start_code : StartFault → ℕ
start_code start.TooManyPages = TOO_MANY_PAGES
start_code start.NoMemory = NO_MEMORY
start_code start.Workers = NEVER

abbrev pub code_of : Fault → ℕ
code_of (Manifest fault) = manifest_code fault
code_of (Start fault) = start_code fault
code_of (Refused fault) = refusal_code fault
code_of (Show fault) = show_code fault
code_of NoSuchLaunch = NO_SUCH_LAUNCH
code_of NoDevicetree = NO_DEVICETREE
code_of FileUnreadable = NO_FILE
code_of FileTooLarge = FILE_TOO_LARGE
code_of NoMemory = NO_MEMORY
code_of OutputIsTerminal = NEVER
code_of OutputFailed = NEVER

-- Why a launch is refused, in a word. This project's choice.
use Rattle.std.specs.Prelude.{ℕ, List, codes}
use Rattle.ipa_layout.specs.declared.fault.LayoutFault.{LayoutFault}
use Rattle.ipa_layout.specs.declared.fault.LayoutFault.TheVariants as layout
use Rattle.rtt_plan.specs.declared.fault.PlanFault.{PlanFault}
use Rattle.rtt_plan.specs.declared.fault.PlanFault.TheVariants as plan
use Rattle.rmi_list.specs.declared.fault.ListFault.{ListFault}
use Rattle.rmi_list.specs.declared.fault.ListFault.TheVariants as list
use Rattle.rim_show.specs.ShowFaults.{devicetree_kind_of, image_kind_of}
use Rattle.rim_accepted.specs.declared.audit_fault.AuditFault.{AuditFault}
use Rattle.rim_accepted.specs.declared.audit_fault.AuditFault.TheVariants as fault

abbrev pub layout_kind_of : LayoutFault → List ℕ
layout_kind_of (layout.Kernel fault) = image_kind_of fault
layout_kind_of (layout.Dtb fault) = devicetree_kind_of fault
layout_kind_of layout.Unaligned = codes "layout-unaligned"
layout_kind_of layout.KernelBase = codes "kernel-base"
layout_kind_of layout.OutsideRam = codes "outside-ram"
layout_kind_of layout.Overlap = codes "overlap"
layout_kind_of layout.InitrdWindow = codes "initrd-window"
layout_kind_of layout.Size = codes "size"
layout_kind_of layout.NoMemory = codes "no-memory"

abbrev pub plan_kind_of : PlanFault → List ℕ
plan_kind_of plan.OutsideProtected = codes "plan-outside-protected"
plan_kind_of plan.Unaligned = codes "plan-unaligned"
plan_kind_of plan.RipasTwice = codes "plan-ripas-twice"
plan_kind_of plan.NotRam = codes "plan-not-ram"
plan_kind_of plan.DataTwice = codes "plan-data-twice"
plan_kind_of plan.TooManyEntries = codes "plan-too-many-entries"
plan_kind_of plan.NoMemory = codes "no-memory"

abbrev pub list_kind_of : ListFault → List ℕ
list_kind_of (list.Plan fault) = plan_kind_of fault
list_kind_of list.PoolEnd = codes "pool-end"
list_kind_of list.TooManyRecs = codes "too-many-recs"
list_kind_of list.RecOrder = codes "rec-order"
list_kind_of list.RecNotRunnable = codes "rec-not-runnable"
list_kind_of list.NoMemory = codes "no-memory"

abbrev pub audit_kind_of : AuditFault → List ℕ
audit_kind_of (fault.Layout fault) = layout_kind_of fault
audit_kind_of (fault.List fault) = list_kind_of fault
audit_kind_of fault.NoMemory = codes "no-memory"

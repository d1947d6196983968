-- The reason that is found is that of the first refusal, and no want of memory.
use Rattle.std.proofs.Common.{◌≡◌, ℕ, List, ap, refl}
use Rattle.std.specs.Prelude.{Option, Ok, Err}
use Rattle.std.specs.Result.{result_map_both}
use Rattle.list_model.specs.Entries.{Entry}
use Rattle.rim_launch.specs.LaunchData.{LaunchData}
use Rattle.ipa_layout.specs.Layout.{PlacedData, laid_out}
use Rattle.ipa_layout.specs.Reason.{fault_of, item_fault_of}
use Rattle.ipa_layout.specs.declared.reason.ItemReason.{ItemReason}
use Rattle.ipa_layout.specs.declared.reason.ItemReason.TheVariants as item
use Rattle.ipa_layout.specs.declared.reason.LayoutReason.{LayoutReason}
use Rattle.ipa_layout.specs.declared.reason.LayoutReason.TheVariants as layout
use Rattle.rmi_list.specs.Listed.{listed}
use Rattle.rmi_list.specs.Reason.{IsReason, list_fault_of, step_fault_of}
use Rattle.rmi_list.specs.declared.reason.ListReason.{ListReason}
use Rattle.rmi_list.specs.declared.reason.ListReason.TheVariants as list
use Rattle.rmi_list.specs.declared.reason.StepReason.{StepReason}
use Rattle.rmi_list.specs.declared.reason.StepReason.TheVariants as step
use Rattle.rim_accepted.specs.Accepted.{accepted_of, commands_for, layout_fault, list_fault, rim_for}
use Rattle.rim_accepted.specs.Reasons.{HasCount, IsRefusedFor, audit_fault_of}
use Rattle.rim_accepted.specs.declared.audit_fault.AuditFault.{AuditFault}
use Rattle.rim_accepted.specs.declared.audit_fault.AuditFault.TheVariants as fault
use Rattle.rim_accepted.specs.declared.reason.LaunchReason.{LaunchReason}
use Rattle.rim_accepted.specs.declared.reason.LaunchReason.TheVariants as launch
use Rattle.rim_accepted.proofs.AcceptedLaunches.{refused-so}
use Rattle.rim_accepted.proofs.RefusedLaunches.{same_refusal}

-- ---- a reason is no want of memory

item-own : (why : ItemReason) → layout_fault (item_fault_of why) ≡ fault.Layout (item_fault_of why)
item-own (item.Kernel e count) = refl
item-own (item.Edits e) = refl
item-own (item.TooLarge size) = refl
item-own (item.Unaligned at) = refl
item-own (item.KernelBase at) = refl
item-own (item.Short size count) = refl
item-own (item.TooManyPages pages) = refl
item-own (item.PastEnd range) = refl
item-own (item.OutsideRam range page) = refl

layout-own : (why : LayoutReason) → layout_fault (fault_of why) ≡ fault.Layout (fault_of why)
layout-own (layout.Item n why) = item-own why
layout-own (layout.Overlap first second) = refl
layout-own (layout.InitrdWindow kernel initrd) = refl

step-own : (why : StepReason) → list_fault (step_fault_of why) ≡ fault.List (step_fault_of why)
step-own (step.Plan reason range) = refl
step-own step.PoolEnd = refl
step-own (step.RecOrder listed) = refl
step-own step.RecNotRunnable = refl

list-own : (why : ListReason) → list_fault (list_fault_of why) ≡ fault.List (list_fault_of why)
list-own (list.TooManyRecs count) = refl
list-own list.Opening = refl
list-own (list.Step number s why) = step-own why

-- ---- the two refusals

pub found-layout : (l : LaunchData) (files : List (List ℕ)) (why : LayoutReason) → laid_out l files ≡ Err why → IsRefusedFor l files (launch.Layout why)
unfolding rim_for commands_for
found-layout l files why is = record { refused = rw is (ap (λ (f : AuditFault). Err f) (layout-own why)); reason = is }

pub found-list : (l : LaunchData) (files : List (List ℕ)) (p : PlacedData) (why : ListReason) (count : Option ℕ) → laid_out l files ≡ Ok p
    → IsReason l p why → HasCount l p (list_fault_of why) count → IsRefusedFor l files (launch.List p why count)
unfolding rim_for commands_for
found-list l files p why count placed is counted = record {
  refused = rw placed (rw is.refused (ap (λ (f : AuditFault). Err f) (list-own why)));
  reason = (ap (result_map_both (λ (q : PlacedData). q) fault_of) placed, is, counted);
}

-- ---- no refusal

pub found-accepted : (l : LaunchData) (files : List (List ℕ)) (p : PlacedData) (entries : List Entry) → laid_out l files ≡ Ok p → listed l p ≡ Ok entries
    → accepted_of l files ≡ Ok p
unfolding accepted_of
found-accepted l files p entries placed listed = rw (placed, listed) refl

-- so a launch that is refused for a reason is not accepted
pub refused-accepted : (l : LaunchData) (files : List (List ℕ)) (why : LaunchReason) → IsRefusedFor l files why → accepted_of l files ≡ Err (audit_fault_of why)
refused-accepted l files why is = refused-so l files (audit_fault_of why) (same_refusal l files) is.refused

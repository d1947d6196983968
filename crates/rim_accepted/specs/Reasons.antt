-- Why a launch is refused, with what the refusing check looked at. This project's choice.
use Rattle.std.specs.Prelude.{◌≡◌, ℕ, List, Option, None, Ok, Err}
use Rattle.ipa_layout.specs.Layout.{PlacedData, laid_out, places}
use Rattle.ipa_layout.specs.Reason.{fault_of}
use Rattle.rim_launch.specs.LaunchData.{LaunchData}
use Rattle.rmi_list.specs.Granules.{TakesGranules}
use Rattle.rmi_list.specs.Reason.{IsReason, list_fault_of}
use Rattle.rmi_list.specs.declared.fault.ListFault.{ListFault}
use Rattle.rmi_list.specs.declared.fault.ListFault.TheVariants.{PoolEnd}
use Rattle.rim_accepted.specs.Accepted.{rim_for}
use Rattle.rim_accepted.specs.declared.audit_fault.AuditFault.{AuditFault}
use Rattle.rim_accepted.specs.declared.audit_fault.AuditFault.TheVariants as fault
use Rattle.rim_accepted.specs.declared.reason.LaunchReason.{LaunchReason}
use Rattle.rim_accepted.specs.declared.reason.LaunchReason.TheVariants.{Layout, List as Lists}

-- the fault that a reason is one of
abbrev pub audit_fault_of : LaunchReason → AuditFault
audit_fault_of (Layout why) = fault.Layout (fault_of why)
audit_fault_of (Lists placed why count) = fault.List (list_fault_of why)

-- how many granules the launch takes is said where its pool has too few
abbrev pub HasCount : LaunchData → PlacedData → ListFault → Option ℕ → Type 0
HasCount l p PoolEnd count = TakesGranules l p count
HasCount l p fault count = count ≡ None

-- the launch has this reason: it cannot be laid out, or it has this place and no list
abbrev pub HasReason : LaunchData → List (List ℕ) → LaunchReason → Type 0
HasReason l files (Layout why) = laid_out l files ≡ Err why
HasReason l files (Lists p why count) = (places l files ≡ Ok p) × IsReason l p why × HasCount l p (list_fault_of why) count

-- the launch is refused for this reason, whose fault is the one that the report has
pub record IsRefusedFor (l : LaunchData) (files : List (List ℕ)) (why : LaunchReason) : Type 0 where
  pub refused : rim_for l files ≡ Err (audit_fault_of why)
  pub reason : HasReason l files why

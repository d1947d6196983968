-- What is known of a step that is not listed. This project's choice.
use Rattle.std.specs.Prelude.{◌≡◌, ◌⊎◌, ℕ, Option, Result, Err}
use Rattle.rtt_plan.specs.declared.fault.PlanFault.{PlanFault}
use Rattle.rtt_plan.specs.declared.fault.PlanFault.TheVariants as plan
use Rattle.ipa_layout.specs.declared.reason.IpaRange.{IpaRange}
use Rattle.rmi_list.specs.Listed.{Listing}
use Rattle.rmi_list.specs.Reason.{Shows, step_fault_of}
use Rattle.rmi_list.specs.declared.fault.ListFault.{ListFault}
use Rattle.rmi_list.specs.declared.reason.StepReason.{StepReason}
use Rattle.rmi_list.specs.declared.reason.StepReason.TheVariants.{Plan}
use Rattle.rmi_list.specs.declared.step_fault.StepFault.{StepFault}
use Rattle.rmi_list.specs.declared.step_fault.StepFault.TheVariants.{NoMemory, Refused}

-- a fault of the planner, where these are the addresses that it was asked for: want of memory is the list's own
abbrev pub plan_fault : PlanFault → IpaRange → StepFault
plan_fault plan.NoMemory range = NoMemory
plan_fault why range = Refused (Plan why range)

-- memory was refused; or the step's definition refuses it for this reason, which shows these addresses, or how many RECs
-- were listed before it
abbrev pub IsStepFault : Option IpaRange → ℕ → StepFault → Result Listing ListFault → Type 0
IsStepFault extent num_recs e wanted = (e ≡ NoMemory)
    ⊎ ((why : StepReason) × (e ≡ Refused why) × (wanted ≡ Err (step_fault_of why)) × Shows extent num_recs why)

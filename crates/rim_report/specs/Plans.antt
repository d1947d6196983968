-- The launches of a release that are accepted, and the plans that they are read as. This project's choice.
use Rattle.std.specs.Prelude.{◌≡◌, ℕ, List, [], ◌∷◌, Result, Ok, Err}
use Rattle.ipa_layout.specs.Layout.{PlacedData}
use Rattle.rim_launch.specs.LaunchData.{LaunchData}
use Rattle.rim_manifest.specs.Launches.{NamedData}
use Rattle.launch_plan.specs.Links.{PlanView}
use Rattle.launch_plan.specs.Reading.{IsReadOf}
use Rattle.rim_accepted.specs.Accepted.{accepted_of}
use Rattle.rim_accepted.specs.declared.audit_fault.AuditFault.{AuditFault}

-- plans begin with that of a launch, where it is accepted
abbrev pub BeginsWith : LaunchData → Result PlacedData AuditFault → (List PlanView → Type 0) → List PlanView → Type 0
BeginsWith l (Err fault) others plans = others plans
BeginsWith l (Ok p) others [] = ⊥
BeginsWith l (Ok p) others (v ∷ plans) = IsReadOf l p v × others plans

-- plans of the launches that are accepted, in their order
abbrev pub ArePlans : List (List ℕ) → List NamedData → List PlanView → Type 0
ArePlans files [] plans = plans ≡ []
ArePlans files (l ∷ ls) plans = BeginsWith l.launch (accepted_of l.launch files) (ArePlans files ls) plans

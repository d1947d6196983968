-- What came of launches, some of which are refused. This project's choice.
use Rattle.std.specs.Prelude.{List, [], ◌∷◌, Result, Ok, Err}
use Rattle.std.specs.Result.{result_map_both}
use Rattle.rim_desc.specs.Page.{zeros}
use Rattle.rim_desc.specs.declared.measurement.Measurement.{Measurement}
use Rattle.rim_accepted.specs.declared.audit_fault.AuditFault.{AuditFault}
use Rattle.rim_accepted.specs.Reasons.{audit_fault_of}
use Rattle.rim_accepted.specs.declared.refused.RefusedLaunch.{RefusedLaunch}

-- a measurement that is not known yet
abbrev pub unknown_rim : Measurement
unknown_rim = record { bytes = zeros 64 }

-- what came of a launch, where its measurement is not known yet
abbrev pub unknown_outcome : {X : Type 0} → Result X RefusedLaunch → Result Measurement AuditFault
unknown_outcome outcome = result_map_both (λ accepted. unknown_rim) (λ r. audit_fault_of r.reason) outcome

-- what came of each launch, with other measurements in the place of those, in their order
abbrev pub with_rims : {M F : Type 0} → List (Result M F) → List M → List (Result M F)
with_rims [] rims = []
with_rims (Err fault ∷ outcomes) rims = Err fault ∷ with_rims outcomes rims
with_rims (Ok m ∷ outcomes) [] = Ok m ∷ outcomes
with_rims (Ok m ∷ outcomes) (rim ∷ rims) = Ok rim ∷ with_rims outcomes rims

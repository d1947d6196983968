-- What a check finds as JSON has no float.
use Rattle.std.proofs.Common.{◌≡◌, ℕ, false, List, refl}
use Rattle.serde_json.specs.Written.{has_float}
use Rattle.rim_check.specs.CheckJson.{check_data}
use Rattle.shown_text.specs.declared.remark.Remark.{Remark}
use Rattle.shown_text.proofs.RemarksAsJson.{remarks-float}

pub check-float : (faults warnings : List Remark) (status : ℕ) → has_float (check_data faults warnings status) ≡ false
unfolding check_data
check-float faults warnings status = rw (remarks-float faults, remarks-float warnings) refl

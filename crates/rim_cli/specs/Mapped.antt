-- The map of a launch, and the status. This project's choice.
use Rattle.std.specs.Prelude.{◌≡◌, ℕ, List, ⊤, Result, Ok, Err}
use Rattle.ipa_layout.specs.Layout.{PlacedData}
use Rattle.rim_manifest.specs.Launches.{NamedData}
use Rattle.rim_accepted.specs.Accepted.{accepted_of}
use Rattle.rim_accepted.specs.declared.audit_fault.AuditFault.{AuditFault}
use Rattle.rim_accepted.specs.Reasons.{IsRefusedFor}
use Rattle.rim_accepted.specs.declared.reason.LaunchReason.{LaunchReason}
use Rattle.rim_check.specs.Explained.{refusal_said}
use Rattle.rim_map.specs.MapJson.{IsMap}
use Rattle.rim_map.specs.RefusedMap.{EndsWithRemark, IsRefusedMap}
use Rattle.shown_text.specs.Lines.{Says}
use Rattle.shown_text.specs.declared.remark.Remark.{Remark}
use Rattle.rim_words.specs.declared.words.Format.{Format}
use Rattle.rim_words.specs.declared.words.Format.TheVariants as format

-- as JSON the map of a launch that is accepted shows it, where files have these paths; what its lines show is tested alone
abbrev pub ShowsPlaced : Format → List (List ℕ) → NamedData → List (List ℕ) → PlacedData → List ℕ → Type 0
ShowsPlaced format.Text paths l files p text = ⊤
ShowsPlaced format.Json paths l files p text = IsMap paths l files p text

-- the map of a launch that is refused for a reason shows this remark: in its last line, or as JSON, of which all is known
abbrev pub ShowsRefusal : Format → List (List ℕ) → NamedData → List (List ℕ) → LaunchReason → Remark → List ℕ → Type 0
ShowsRefusal format.Text paths l files why remark text = EndsWithRemark remark text
ShowsRefusal format.Json paths l files why remark text = IsRefusedMap paths l files why remark text

-- the map of a launch that is refused: it shows the remark in which a check says why
pub record IsRefusedMapOf (format : Format) (paths : List (List ℕ)) (l : NamedData) (files : List (List ℕ)) (text : List ℕ) : Type 0 where
  pub why : LaunchReason
  pub refused : IsRefusedFor l.launch files why
  pub remark : Remark
  pub says : Says (refusal_said l why) remark
  pub shown : ShowsRefusal format paths l files why remark text

-- the status is 0 where the launch is accepted, and 1 where it is refused; and this is its map
abbrev pub IsMapBy : Format → List (List ℕ) → NamedData → List (List ℕ) → Result PlacedData AuditFault → List ℕ → ℕ → Type 0
IsMapBy format paths l files (Ok p) text status = ShowsPlaced format paths l files p text × (status ≡ 0)
IsMapBy format paths l files (Err fault) text status = IsRefusedMapOf format paths l files text × (status ≡ 1)

abbrev pub IsMapOf : Format → List (List ℕ) → NamedData → List (List ℕ) → List ℕ → ℕ → Type 0
IsMapOf format paths l files text status = IsMapBy format paths l files (accepted_of l.launch files) text status

-- The map of a launch that was found is that of the launch that the manifest describes, and its status says whether it is refused.
use Rattle.std.proofs.Common.{◌≡◌, ◌∙◌, ℕ, true, false, List, refl, ap, sym, subst}
use Rattle.std.specs.Prelude.{Result, Ok, Err, is_err}
use Rattle.ipa_layout.specs.Files.{bytes_of_files}
use Rattle.ipa_layout.specs.Layout.{PlacedData}
use Rattle.rim_manifest.specs.Launches.{NamedData}
use Rattle.rim_accepted.specs.Accepted.{accepted_of}
use Rattle.rim_accepted.specs.Reasons.{IsRefusedFor}
use Rattle.rim_accepted.specs.declared.accepted.AcceptedLaunch.{AcceptedLaunch}
use Rattle.rim_accepted.specs.declared.audit_fault.AuditFault.{AuditFault}
use Rattle.rim_accepted.specs.declared.reason.LaunchReason.{LaunchReason}
use Rattle.rim_accepted.proofs.RefusedLaunches.{same_refusal}
use Rattle.rim_cli.specs.Mapped.{IsMapBy, IsMapOf, IsRefusedMapOf, ShowsPlaced, ShowsRefusal}
use Rattle.rim_check.specs.Explained.{refusal_said}
use Rattle.shown_text.specs.Lines.{Says}
use Rattle.shown_text.specs.declared.remark.Remark.{Remark}
use Rattle.rim_words.specs.declared.words.Format.{Format}

-- the map of a launch that is accepted shows its place
pub accepted-map : (f : Format) (paths : List (List ℕ)) (l : NamedData) (files : List (List ℕ)) (a : AcceptedLaunch) (text : List ℕ)
    → a.named.now ≡ l → bytes_of_files a.files.now ≡ files → accepted_of l.launch files ≡ Ok a.placed
    → ShowsPlaced f paths a.named.now (bytes_of_files a.files.now) a.placed text → IsMapOf f paths l files text 0
accepted-map f paths l files a text own files_own accepted shows =
    subst (λ (place : Result PlacedData AuditFault). IsMapBy f paths l files place text 0) (sym accepted) (
      subst (λ (x : NamedData). ShowsPlaced f paths x files a.placed text) own
          (subst (λ (fs : List (List ℕ)). ShowsPlaced f paths a.named.now fs a.placed text) files_own shows),
      refl,
    )

-- a map shows a remark in which a check says why
abbrev pub ShowsSome : Format → List (List ℕ) → NamedData → List (List ℕ) → LaunchReason → List ℕ → Type 0
ShowsSome f paths l files why text = (remark : Remark) × Says (refusal_said l why) remark × ShowsRefusal f paths l files why remark text

-- and one that is refused has the status 1, and shows that remark
pub refused-map : (f : Format) (paths : List (List ℕ)) (l : NamedData) (files : List (List ℕ)) (why : LaunchReason) (text : List ℕ)
    → IsRefusedFor l.launch files why
    → ShowsSome f paths l files why text → IsMapOf f paths l files text 1
refused-map f paths l files why text refused shows = by-place (accepted_of l.launch files) refl
  where
    whole : IsRefusedMapOf f paths l files text
    whole = record { why = why; refused = refused; remark = shows.0; says = shows.1; shown = shows.2 }

    by-place : (place : Result PlacedData AuditFault) → accepted_of l.launch files ≡ place → IsMapBy f paths l files place text 1
    by-place (Err fault) is = (whole, refl)
    by-place (Ok p) is =
        let on : is_err (accepted_of l.launch files) ≡ true =
        sym (same_refusal l.launch files) ∙ ap (λ (r : Result (List ℕ) AuditFault). is_err r) refused.refused in
        let off : is_err (accepted_of l.launch files) ≡ false = ap (λ (r : Result PlacedData AuditFault). is_err r) is in
        absurd (cc)

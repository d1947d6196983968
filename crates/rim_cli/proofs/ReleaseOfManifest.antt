-- What holds of the release and the launch that were found holds of those that the manifest describes.
use Rattle.std.proofs.Common.{◌≡◌, ℕ, Bool, List, Some, None, slice_get, ap, ◌∙◌, subst, sym}
use Rattle.std.specs.Prelude.{Result, Ok, IsOkAnd, is_err, option_and_then, position, if◌then◌else◌}
use Rattle.rim_manifest.specs.Manifest.{manifest_of, name_in}
use Rattle.rim_manifest.specs.Launches.{NamedData, ReleaseData}
use Rattle.rim_manifest.specs.declared.fault.ManifestFault.{ManifestFault}
use Rattle.rim_audit.specs.Listing.{text_or_line}
use Rattle.rim_accepted.specs.declared.audit_fault.AuditFault.{AuditFault}
use Rattle.rim_cli.specs.Done.{IsShown, OfLaunch}
use Rattle.rim_files.specs.Files.{AreRead, IfFile, Known}

-- what holds of the release that was read holds of the one that the manifest describes
pub of_release : (known : Known) (r : ReleaseData) (Q : ReleaseData → Type 0) → IfFile known (λ bytes. manifest_of bytes ≡ Ok r)
    → Q r → IfFile known (λ bytes. IsOkAnd (manifest_of bytes) Q)
of_release None r Q read q = tt
of_release (Some None) r Q read q = absurd read
of_release (Some (Some bytes)) r Q read q = subst (λ (m : Result ReleaseData ManifestFault). IsOkAnd m Q) (sym read) q

-- what holds of the launch at the number of a name holds of the launch of that name
pub found_launch : (held : List ℕ → Known) (name : List ℕ) (r : ReleaseData) (number : ℕ) (l : NamedData) (files : List (List ℕ))
    (Holds : NamedData → List (List ℕ) → Type 0)
    → position (name_in name) r.launches ≡ Some number → slice_get r.launches number ≡ Some l → AreRead held r.paths files → Holds l files
    → OfLaunch held r name Holds
found_launch held name r number l files Holds named there read own = record {
  files = files;
  read = read;
  launch = l;
  named = ap (option_and_then (slice_get r.launches)) named ∙ there;
  holds = own;
}

-- a text and a status, where the status says whether the text is a refusal
pub shown : (text_of : NamedData → List (List ℕ) → Result (List ℕ) AuditFault) (l : NamedData) (files : List (List ℕ)) (text : List ℕ) (refused : Bool)
    (status : ℕ)
    → text ≡ text_or_line l (text_of l files) → refused ≡ is_err (text_of l files) → status ≡ (if refused then 1 else 0)
    → IsShown l (text_of l files) text status
shown text_of l files text refused status is own e = (is, e ∙ ap (λ (b : Bool). if b then 1 else 0) own)

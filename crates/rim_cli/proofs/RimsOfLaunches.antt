-- What came of the launch of a number is that launch's own.
use Rattle.std.proofs.Common.{◌≡◌, ◌∙◌, ◌<◌, ℕ, List, Some, ap, arith, get_or, length, map, refl, slice_get, sym}
use Rattle.std.specs.Prelude.{Result, option_map}
use Rattle.std.proofs.lemmas.List.{length-map}
use Rattle.std.proofs.lemmas.Option.{same_Some, slice_get-map, slice_get_read}
use Rattle.rim_desc.specs.declared.measurement.Measurement.{Measurement}
use Rattle.rim_manifest.specs.Launches.{NamedData}
use Rattle.rim_accepted.specs.Accepted.{rim_for}
use Rattle.rim_accepted.specs.Lines.{outcomes_for, seen}
use Rattle.rim_accepted.specs.declared.audit_fault.AuditFault.{AuditFault}

pub rim_at : (files : List (List ℕ)) (ls : List NamedData) (outcomes : List (Result Measurement AuditFault)) (i : ℕ) (l : NamedData)
    (o : Result Measurement AuditFault)
    → map seen outcomes ≡ outcomes_for files ls → i < length ls → slice_get ls i ≡ Some l → o ≡ get_or outcomes i o → rim_for l.launch files ≡ seen o
rim_at files ls outcomes i l o same low there read =
    let size : length (map seen outcomes) ≡ length (outcomes_for files ls) = ap length same in
    let within : i < length outcomes = omega (arith, low, size, length-map outcomes seen, length-map ls (λ n. rim_for n.launch files)) in
    let left : slice_get (map seen outcomes) i ≡ Some (seen o)
    = slice_get-map seen outcomes i ∙ ap (option_map seen) (slice_get_read outcomes (length outcomes) i o refl within read) in
    let right : slice_get (outcomes_for files ls) i ≡ Some (rim_for l.launch files)
    = slice_get-map (λ n. rim_for n.launch files) ls i ∙ ap (option_map (λ n. rim_for n.launch files)) there in
    same_Some _ _ (sym right ∙ sym (ap (λ (os : List (Result (List ℕ) AuditFault)). slice_get os i) same) ∙ left)

-- The length of a report does not depend on the measurements.
use Rattle.std.proofs.Common.{◌≡◌, ℕ, ◌+◌, ◌∙◌, List, [], ◌∷◌, ◌++◌, length, map, refl, ap, sym, arith}
use Rattle.std.specs.Prelude.{Result, Ok, Err, codes}
use Rattle.std.specs.Fmt.{decimal}
use Rattle.std.specs.List.{AllByRecursion}
use Rattle.std.proofs.lemmas.List.{length-append, length-take}
use Rattle.hex.specs.Hex.{encode_lower, lower_digits}
use Rattle.hex.proofs.HexLemmas.{length-encode_with}
use Rattle.sha2.proofs.Facts256.{length-sha256}
use Rattle.sha2.proofs.Facts512.{length-sha512}
use Rattle.sha2.specs.Sha256.{sha256}
use Rattle.rim_desc.specs.Measurement.{measurement_of}
use Rattle.rim_desc.specs.Page.{zeros}
use Rattle.rim_desc.specs.Part.{Part, Realm, Ripas, Data, Rec, extended, extended_by}
use Rattle.rim_desc.specs.declared.measurement.Algo.{Algo}
use Rattle.rim_desc.specs.declared.measurement.Algo.TheVariants.{Sha256, Sha512}
use Rattle.rim_desc.specs.declared.measurement.Measurement.{Measurement}
use Rattle.rim_desc.proofs.BytesBesideFields.{length-zeros}
use Rattle.page_jobs.specs.Table.{TableView}
use Rattle.launch_plan.specs.Links.{PlanView, chain_of, parts_of}
use Rattle.launch_plan.specs.Rows.{value_in}
use Rattle.rim_manifest.specs.Launches.{NamedData}
use Rattle.rmi_line.specs.Ends.{spaced_word, digest_bytes, rim_text}
use Rattle.rim_accepted.specs.Lines.{line_with}
use Rattle.rim_report.specs.Report.{report_with}
use Rattle.rim_report.specs.inside.Unknown.{unknown_outcome, with_rims}
use Rattle.rim_accepted.specs.Lines.{lines_with}
use Rattle.rim_accepted.specs.declared.audit_fault.AuditFault.{AuditFault}
use Rattle.rim_accepted.specs.declared.refused.RefusedLaunch.{RefusedLaunch}

-- ---- measurements have 64 bytes

measurement-size : (algo : Algo) (message : List ℕ) → length (measurement_of algo message) ≡ 64
measurement-size Sha256 message = length-append (sha256 message) (zeros 32) ∙ omega (arith, length-sha256 message, length-zeros 32)
measurement-size Sha512 message = length-sha512 message

extended-size : (algo : Algo) (rim : List ℕ) (part : Part) → length (extended algo rim part) ≡ 64
extended-size algo rim (Realm page) = measurement-size algo _
extended-size algo rim (Ripas base top) = measurement-size algo _
extended-size algo rim (Data ipa content) = measurement-size algo _
extended-size algo rim (Rec content) = measurement-size algo _

extended_by-size : (algo : Algo) (rim : List ℕ) (parts : List Part) → length rim ≡ 64 → length (extended_by algo rim parts) ≡ 64
extended_by-size algo rim [] size = size
extended_by-size algo rim (part ∷ parts) size = extended_by-size algo (extended algo rim part) parts (extended-size algo rim part)

chain-size : (p : PlanView) (digests : List Measurement) → length (chain_of p digests) ≡ 64
unfolding chain_of
chain-size p digests = extended_by-size p.params.algo (zeros 64) (parts_of p digests) (length-zeros 64)

abbrev pub HasSize : Measurement → Type 0
HasSize m = length m.bytes ≡ 64

pub chains-size : (t : TableView) (plans : List PlanView) (rims : List Measurement) → map (λ m. m.bytes) rims ≡ map (value_in t) plans
    → AllByRecursion HasSize rims
chains-size t plans [] same = tt
chains-size t [] (rim ∷ rims) same = absurd (cc)
chains-size t (p ∷ plans) (rim ∷ rims) same =
    let here : rim.bytes ≡ value_in t p = cc in
    let others : map (λ m. m.bytes) rims ≡ map (value_in t) plans = cc in
    (ap length here ∙ chain-size p _, chains-size t plans rims others)

-- so have those that are not known yet
abbrev pub HasSizeWithin : Result Measurement AuditFault → Type 0
HasSizeWithin (Ok m) = HasSize m
HasSizeWithin (Err fault) = Unit {0}

pub unknown-size : {X : Type 0} (outcomes : List (Result X RefusedLaunch)) → AllByRecursion HasSizeWithin (map unknown_outcome outcomes)
unknown-size [] = tt
unknown-size (Ok x ∷ outcomes) = (length-zeros 64, unknown-size outcomes)
unknown-size (Err fault ∷ outcomes) = (tt, unknown-size outcomes)

-- ---- lines

digest-size : (algo : Algo) (some other : List ℕ) → length some ≡ 64 → length other ≡ 64 → length (digest_bytes algo some) ≡ length (digest_bytes algo other)
digest-size Sha256 some other a b = omega (arith, a, b, length-take 32 some, length-take 32 other)
digest-size Sha512 some other a b = a ∙ sym b

text-size : (algo : Algo) (some other : List ℕ) → length some ≡ 64 → length other ≡ 64 → length (rim_text algo some) ≡ length (rim_text algo other)
text-size algo some other a b =
    let one = length-append (spaced_word algo) (encode_lower (digest_bytes algo some)) in
    let two = length-append (spaced_word algo) (encode_lower (digest_bytes algo other)) in
    omega (
      arith,
      one,
      two,
      length-encode_with lower_digits (digest_bytes algo some),
      length-encode_with lower_digits (digest_bytes algo other),
      digest-size algo some other a b,
    )

line-size : (l : NamedData) (some other : List ℕ) → length some ≡ 64 → length other ≡ 64 → length (line_with l (Ok some)) ≡ length (line_with l (Ok other))
unfolding line_with
line-size l some other a b =
    let algo : Algo = l.launch.config.algo in
    let one = length-append l.name (rim_text algo some) in
    let two = length-append l.name (rim_text algo other) in
    let last = length-append (l.name ++ rim_text algo some) (codes "\n") in
    let last' = length-append (l.name ++ rim_text algo other) (codes "\n") in
    omega (arith, one, two, last, last', text-size algo some other a b)

-- the lines of launches, with other measurements in the place of those
lines-size : (ls : List NamedData) (outcomes : List (Result Measurement AuditFault)) (rims : List Measurement)
    → AllByRecursion HasSizeWithin outcomes → AllByRecursion HasSize rims
    → length (lines_with ls (with_rims outcomes rims)) ≡ length (lines_with ls outcomes)
lines-size [] outcomes rims a b = refl
lines-size (l ∷ ls) [] rims a b = refl
lines-size (l ∷ ls) (Err fault ∷ outcomes) rims a b =
    let here : List ℕ = line_with l (Err fault) in
    omega (
      arith,
      length-append here (lines_with ls (with_rims outcomes rims)),
      length-append here (lines_with ls outcomes),
      lines-size ls outcomes rims a.1 b,
    )
lines-size (l ∷ ls) (Ok m ∷ outcomes) [] a b = refl
lines-size (l ∷ ls) (Ok m ∷ outcomes) (rim ∷ rims) a b =
    omega (
      arith,
      length-append (line_with l (Ok m.bytes)) (lines_with ls outcomes),
      length-append (line_with l (Ok rim.bytes)) (lines_with ls (with_rims outcomes rims)),
      line-size l m.bytes rim.bytes a.0 b.0,
      lines-size ls outcomes rims a.1 b.1,
    )

-- a report with other measurements is as long
pub report-size : (ls : List NamedData) (outcomes : List (Result Measurement AuditFault)) (rims : List Measurement) (count : ℕ)
    → AllByRecursion HasSizeWithin outcomes → AllByRecursion HasSize rims
    → length (report_with (lines_with ls (with_rims outcomes rims)) count) ≡ length (report_with (lines_with ls outcomes) count)
report-size ls outcomes rims count a b =
    let lines = lines-size ls outcomes rims a b in
    omega (arith, lines, whole (lines_with ls (with_rims outcomes rims)), whole (lines_with ls outcomes))
  where
    whole : (lines : List ℕ) → length (report_with lines count)
        ≡ (length (codes "rim-report 1\n") + length lines + length (codes "pages ")) + length (decimal count ++ codes "\n")
    whole lines =
        let prefix = length-append (codes "rim-report 1\n") lines in
        let middle = length-append (codes "rim-report 1\n" ++ lines) (codes "pages ") in
        let all = length-append ((codes "rim-report 1\n" ++ lines) ++ codes "pages ") (decimal count ++ codes "\n") in
        omega (arith, prefix, middle, all)

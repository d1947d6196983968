-- The lines of launches, added one after another, are those of the report.
use Rattle.std.proofs.Common.{◌≡◌, ℕ, ◌+◌, ◌<◌, ◌≤◌, ◌⊎◌, ◌∙◌, inl, inr, suc, List, [], ◌∷◌, ◌++◌, length, map, take, refl, ap, sym, arith, append_assoc}
use Rattle.std.specs.Prelude.{Result, Some}
use Rattle.std.specs.List.{flat_map, slice_get}
use Rattle.std.proofs.lemmas.Grind.{flat_map-append}
use Rattle.std.proofs.lemmas.List.{append-nil, length-append}
use Rattle.std.proofs.lemmas.Option.{get_or_from_slice_get, slice_get_within}
use Rattle.std.proofs.Math.Seq.{take-suc}
use Rattle.rim_desc.specs.declared.measurement.Measurement.{Measurement}
use Rattle.rim_manifest.specs.Launches.{NamedData}
use Rattle.rim_accepted.specs.Accepted.{rim_for}
use Rattle.rim_accepted.specs.Lines.{line_of, line_with, lines_of, seen}
use Rattle.rim_accepted.specs.Lines.{lines_with}
use Rattle.rim_accepted.specs.declared.audit_fault.AuditFault.{AuditFault}

-- after the last launch all lines were added
pub lines-over : (ls : List NamedData) (outcomes : List (Result Measurement AuditFault)) (now all : List ℕ)
    → (length ls ≡ 0) ⊎ (length outcomes ≡ 0) → now ++ lines_with ls outcomes ≡ all → now ≡ all
lines-over [] outcomes now all over so_far = sym (append-nil now) ∙ so_far
lines-over (l ∷ ls) [] now all over so_far = sym (append-nil now) ∙ so_far
lines-over (l ∷ ls) (outcome ∷ outcomes) now all (inl none) so_far = absurd (omega (arith, none))
lines-over (l ∷ ls) (outcome ∷ outcomes) now all (inr none) so_far = absurd (omega (arith, none))

-- the lines of launches of which came what their definitions say
pub own-lines : (files : List (List ℕ)) (ls : List NamedData) (outcomes : List (Result Measurement AuditFault))
    → map seen outcomes ≡ map (λ l. rim_for l.launch files) ls → lines_with ls outcomes ≡ lines_of files ls
own-lines files [] outcomes same = refl
own-lines files (l ∷ ls) [] same = absurd (cc)
own-lines files (l ∷ ls) (outcome ∷ outcomes) same =
    let here : seen outcome ≡ rim_for l.launch files = cc in
    let others : map seen outcomes ≡ map (λ x. rim_for x.launch files) ls = cc in
    ap (λ (o : Result (List ℕ) AuditFault). line_with l o ++ lines_with ls outcomes) here
    ∙ ap (λ (text : List ℕ). line_of files l ++ text) (own-lines files ls outcomes others)

-- the first elements, and one more
pub one-more : {X : Type 0} (xs : List X) (i : ℕ) (x : X) → slice_get xs i ≡ Some x → take i xs ++ x ∷ [] ≡ take (i + 1) xs
one-more xs i x at =
    let next : suc i ≡ i + 1 = omega arith in
    ap (λ (y : _). take i xs ++ y ∷ []) (sym (get_or_from_slice_get xs i x x at)) ∙ sym (take-suc xs i x (slice_get_within xs i x at))
    ∙ ap (λ (n : ℕ). take n xs) next

-- a line more
pub line-next : {X : Type 0} (line : X → List ℕ) (old now new : List ℕ) (xs : List X) (i : ℕ) (x : X) → slice_get xs i ≡ Some x
    → now ≡ old ++ flat_map line (take i xs) → new ≡ now ++ line x → new ≡ old ++ flat_map line (take (i + 1) xs)
line-next line old now new xs i x at so_far added =
    added
    ∙ ap (λ (text : List ℕ). text ++ line x) so_far
    ∙ append_assoc old (flat_map line (take i xs)) (line x)
    ∙ ap (λ (text : List ℕ). old ++ (flat_map line (take i xs) ++ text)) (sym (append-nil (line x)))
    ∙ ap (λ (text : List ℕ). old ++ text) (sym (flat_map-append line (take i xs) (x ∷ [])))
    ∙ ap (λ (ys : List _). old ++ flat_map line ys) (one-more xs i x at)

-- what a report is added as
pub report-joined : (old shared_prefix lines pages number end : List ℕ)
    → ((((old ++ shared_prefix) ++ lines) ++ pages) ++ number) ++ end ≡ old ++ (((shared_prefix ++ lines) ++ pages) ++ (number ++ end))
report-joined old shared_prefix lines pages number end =
    append_assoc (((old ++ shared_prefix) ++ lines) ++ pages) number end
    ∙ ap (λ (prefix : List ℕ). (prefix ++ pages) ++ (number ++ end)) (append_assoc old shared_prefix lines)
    ∙ ap (λ (prefix : List ℕ). prefix ++ (number ++ end)) (append_assoc old (shared_prefix ++ lines) pages)
    ∙ append_assoc old ((shared_prefix ++ lines) ++ pages) (number ++ end)

-- a text with no room for a line has none for all lines
pub no-room : (old now line rest all : List ℕ) (room before : ℕ) → now ++ (line ++ rest) ≡ old ++ all → before ≤ room → room < length now + length line
    → before < length old + length all
no-room old now line rest all room before same kept full =
    omega (arith, kept, full, ap length same, length-append now (line ++ rest), length-append line rest, length-append old all)

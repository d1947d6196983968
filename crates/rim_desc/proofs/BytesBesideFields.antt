-- A part that is put in a page leaves the bytes beside it, so what has no field is zero.
use Rattle.std.proofs.Common.{◌≡◌, ℕ, ◌+◌, ◌-◌, ◌≤◌, ◌<◌, ◌&&◌, ◌⊎◌, true, false, List, [], ◌∷◌, ◌++◌, length, take, drop, replicate, get_or, ap, ◌∙◌, arith}
use Rattle.std.proofs.Common.{length-append, length-drop, inl, inr}
use Rattle.std.specs.Prelude.{nat_le, nat_lt}
use Rattle.std.proofs.lemmas.List.{length-take-le, length-replicate, get_or-replicate, get_or_past, get_or-take, get_or-drop}
use Rattle.std.proofs.Math.ListN.{get_or-append}
use Rattle.std.proofs.Math.Seq.{get_or-append_right}
use Rattle.std.proofs.lemmas.Bool.{leb-true, and_parts, or_parts, cases_lt}
use Rattle.std.proofs.lemmas.Bool.Decides.{nat_tests}
use Rattle.rim_desc.specs.Page.{Field, all_fit, covers, is_listed, with_fields, with_part, zeros}

-- a part in a page leaves the page's length
pub length-with_part : (page part : List ℕ) (at : ℕ) → at + length part ≤ length page → length (with_part page at part) ≡ length page
unfolding with_part
length-with_part page part at fits =
    let front : length (take at page) ≡ at = length-take-le at page (omega arith) in
    simp (length-append, length-drop, front) (omega arith)

-- and the bytes before it and after it
before : (page part : List ℕ) (at k : ℕ) → at + length part ≤ length page → k < at → get_or (with_part page at part) k 0 ≡ get_or page k 0
unfolding with_part
before page part at k fits low =
    let front : length (take at page) ≡ at = length-take-le at page (omega arith) in
    let inside : k < length (take at page) = omega arith in
    get_or-append (take at page) (part ++ drop (length part) (drop at page)) 0 k inside ∙ get_or-take at page k 0 low

behind : (page part : List ℕ) (at k : ℕ) → at + length part ≤ length page → at + length part ≤ k → get_or (with_part page at part) k 0 ≡ get_or page k 0
unfolding with_part
behind page part at k fits high =
    let front : length (take at page) ≡ at = length-take-le at page (omega arith) in
    let past : length (take at page) ≤ k = omega arith in
    let there : k - length (take at page) ≡ k - at = omega arith in
    let over : length part ≤ k - at = omega arith in
    let same : at + (length part + (k - at - length part)) ≡ k = omega arith in
    get_or-append_right (take at page) (part ++ drop (length part) (drop at page)) k 0 past
    ∙ ap (λ i. get_or (part ++ drop (length part) (drop at page)) i 0) there
    ∙ get_or-append_right part (drop (length part) (drop at page)) (k - at) 0 over
    ∙ get_or-drop (length part) (drop at page) (k - at - length part) 0
    ∙ get_or-drop at page (length part + (k - at - length part)) 0
    ∙ ap (λ i. get_or page i 0) same

sides : (at n k : ℕ) → (nat_le at k && nat_lt k (at + n)) ≡ false → (k < at) ⊎ (at + n ≤ k)
sides at n k h = grind (arith, nat_tests)

pub beside : (page part : List ℕ) (at k : ℕ) → at + length part ≤ length page → (nat_le at k && nat_lt k (at + length part)) ≡ false
    → get_or (with_part page at part) k 0 ≡ get_or page k 0
beside page part at k fits outside =
    elim (sides at (length part) k outside) [ inl low ↦ before page part at k fits low | inr high ↦ behind page part at k fits high ]

-- what is zero stays zero where no field is put
pub zero_beside : (fs : List Field) (page : List ℕ) (n k : ℕ) → length page ≡ n → get_or page k 0 ≡ 0
    → all_fit n fs ≡ true → is_listed k fs ≡ false → get_or (with_fields page fs) k 0 ≡ 0
zero_beside [] page n k size zero fit listed = zero
zero_beside (f ∷ fs) page n k size zero fit listed =
    let fits = and_parts (nat_le (f.at + length f.part) n) (all_fit n fs) fit in
    let apart = or_parts (covers k f) (is_listed k fs) listed in
    let inside : f.at + length f.part ≤ n = leb-true _ _ fits.0 in
    let within : f.at + length f.part ≤ length page = omega (arith, inside, size) in
    zero_beside fs (with_part page f.at f.part) n k (length-with_part page f.part f.at within ∙ size)
    (beside page f.part f.at k within apart.0 ∙ zero) fits.1 apart.1

pub length-zeros : (n : ℕ) → length (zeros n) ≡ n
unfolding zeros
length-zeros n = length-replicate n 0

pub get_or-zeros : (n k : ℕ) → get_or (zeros n) k 0 ≡ 0
unfolding zeros
get_or-zeros n k =
    elim (cases_lt k n) [ inl low ↦ get_or-replicate n k 0 0 low | inr high ↦ get_or_past (replicate n 0) k 0 (rw (length-replicate {A = ℕ} n 0) high) ]

-- A page's bytes are the bytes of the item that fall in it, over zeros.
use Rattle.std.proofs.Common.{◌≡◌, ℕ, ◌+◌, ◌-◌, ◌*◌, ◌<◌, ◌≤◌, ◌&&◌, ◌⊎◌, cond, false, zero, suc, List, [], ◌++◌, length, take, drop, get_or, refl, ap, sym}
use Rattle.std.proofs.Common.{◌∙◌, arith, inl, inr, length-drop, nat_lt, lt-ltb, min, append-nil}
use Rattle.std.specs.Prelude.{nat_le}
use Rattle.std.proofs.lemmas.Bool.Decides.{nat_tests}
use Rattle.std.proofs.lemmas.List.{ext_get_or, get_or-drop, get_or-take, get_or_past, length-take, length-take-le, nil_from_length, take-append-drop}
use Rattle.std.proofs.Math.ListN.{get_or-append}
use Rattle.std.proofs.Math.Seq.{get_or-append_right}
use Rattle.rim_desc.specs.Page.{with_part, zeros}
use Rattle.rim_desc.proofs.BytesBesideFields.{beside, get_or-zeros, length-with_part, length-zeros}
use Rattle.rim_desc.specs.PageBytes.{page_bytes}
use Rattle.rim_desc.proofs.PageBytesByPlace.{length-page_bytes, page_bytes-at}
use Rattle.page_jobs.specs.Lent.{front_of, lent_of}

-- a byte of the part
within : (page part : List ℕ) (at k : ℕ) → at + length part ≤ length page → at ≤ k → k < at + length part
    → get_or (with_part page at part) k 0 ≡ get_or part (k - at) 0
unfolding with_part
within page part at k fits low high =
    let front : length (take at page) ≡ at = length-take-le at page (omega arith) in
    let past : length (take at page) ≤ k = omega arith in
    let there : k - length (take at page) ≡ k - at = omega arith in
    let inside : k - at < length part = omega arith in
    get_or-append_right (take at page) (part ++ drop (length part) (drop at page)) k 0 past
    ∙ ap (λ i. get_or (part ++ drop (length part) (drop at page)) i 0) there
    ∙ get_or-append part (drop (length part) (drop at page)) 0 (k - at) inside

outside_before : (at n k : ℕ) → k < at → (nat_le at k && nat_lt k (at + n)) ≡ false
outside_before at n k low = grind (arith, nat_tests)

outside_behind : (at n k : ℕ) → at + n ≤ k → (nat_le at k && nat_lt k (at + n)) ≡ false
outside_behind at n k high = grind (arith, nat_tests)

not_below : (j f : ℕ) → f ≤ j → nat_lt j f ≡ false
not_below j f high = grind (arith, nat_tests)

three_ways : (f n j : ℕ) → (j < f) ⊎ (((f ≤ j) × (j < f + n)) ⊎ (f + n ≤ j))
three_ways f n j = grind arith

-- byte j of a page whose first f bytes are zeros, and which goes on with the item from s on
contents-at : (f s j : ℕ) (item : List ℕ) → f ≤ 4096 → j < 4096
    → get_or (with_part (zeros 4096) f (take (4096 - f) (drop s item))) j 0 ≡ (cond (nat_lt j f) 0 (get_or item (s + (j - f)) 0))
contents-at f s j item room low =
    elim (three_ways f (length part) j) [
      | inl before ↦ rw (lt-ltb j f before) (beside (zeros 4096) part f j fits (outside_before f (length part) j before) ∙ get_or-zeros 4096 j)
      | inr later ↦ elim later [
        | inl inside ↦ rw (not_below j f inside.0) (within (zeros 4096) part f j fits inside.0 inside.1
            ∙ get_or-take (4096 - f) (drop s item) (j - f) 0 (omega arith) ∙ get_or-drop s item (j - f) 0)
        | inr behind ↦ rw (not_below j f (omega arith)) (beside (zeros 4096) part f j fits (outside_behind f (length part) j behind) ∙ get_or-zeros 4096 j
            ∙ sym (sym (get_or-drop s item (j - f) 0) ∙ get_or_past (drop s item) (j - f) 0 (omega (arith, size))))
      ]
    ]
  where
    part : List ℕ
    part = take (4096 - f) (drop s item)

    size : length (take (4096 - f) (drop s item)) ≡ min (4096 - f) (length (drop s item))
    size = length-take (4096 - f) (drop s item)

    fits : f + length (take (4096 - f) (drop s item)) ≤ length (zeros 4096)
    fits = omega (arith, size, length-zeros 4096)

length-lent : (f s : ℕ) (item : List ℕ) → f ≤ 4096 → f + length (take (4096 - f) (drop s item)) ≤ 4096
length-lent f s item room = omega (arith, length-take (4096 - f) (drop s item))

length-contents : (f s : ℕ) (item : List ℕ) → f ≤ 4096 → length (with_part (zeros 4096) f (take (4096 - f) (drop s item))) ≡ 4096
length-contents f s item room =
    let fits : f + length (take (4096 - f) (drop s item)) ≤ length (zeros 4096) = omega (arith, length-lent f s item room, length-zeros 4096) in
    length-with_part (zeros 4096) (take (4096 - f) (drop s item)) f fits ∙ length-zeros 4096

-- the bytes that fall in page k, over zeros, are page k
pub contents-page_bytes : (lead k : ℕ) (item : List ℕ) → lead < 4096 → with_part (zeros 4096) (front_of lead k) (lent_of lead item k) ≡ page_bytes lead item k
contents-page_bytes lead zero item low =
    ext_get_or 0 _ (page_bytes lead item 0) (length-contents lead (4096 * 0 - lead) item (omega arith) ∙ sym (length-page_bytes lead 0 item))
    (λ j inside.
    let size = length-contents lead (4096 * 0 - lead) item (omega arith) in
    let least : j < 4096 = omega arith in
    contents-at lead (4096 * 0 - lead) j item (omega arith) least
    ∙ ap (λ i. cond (nat_lt j lead) 0 (get_or item i 0)) (same j)
    ∙ ap (λ i. cond (nat_lt i lead) 0 (get_or item (4096 * 0 + j - lead) 0)) (there j) ∙ sym (page_bytes-at lead 0 j item least))
  where
    same : (j : ℕ) → 4096 * 0 - lead + (j - lead) ≡ 4096 * 0 + j - lead
    same j = omega arith

    there : (j : ℕ) → j ≡ 4096 * 0 + j
    there j = omega arith
contents-page_bytes lead (suc k) item low =
    ap (λ f. with_part (zeros 4096) f (take (4096 - f) (drop (4096 * suc k - lead) item))) none
    ∙ ext_get_or 0 (with_part (zeros 4096) 0 (take (4096 - 0) (drop (4096 * suc k - lead) item))) (page_bytes lead item (suc k))
    (length-contents 0 (4096 * suc k - lead) item (omega arith) ∙ sym (length-page_bytes lead (suc k) item))
    (λ j inside.
    let size = length-contents 0 (4096 * suc k - lead) item (omega arith) in
    let least : j < 4096 = omega arith in
    let past : nat_lt (4096 * suc k + j) lead ≡ false = not_below (4096 * suc k + j) lead (omega arith) in
    contents-at 0 (4096 * suc k - lead) j item (omega arith) least
    ∙ ap (λ b. cond b 0 (get_or item (4096 * suc k - lead + (j - 0)) 0)) (not_below j 0 (omega arith))
    ∙ ap (λ i. get_or item i 0) (same j) ∙ sym (page_bytes-at lead (suc k) j item least ∙ rw past refl))
  where
    none : front_of lead (suc k) ≡ 0
    none = grind (arith, nat_tests)

    same : (j : ℕ) → 4096 * suc k - lead + (j - 0) ≡ 4096 * suc k + j - lead
    same j = omega arith

-- a page that nothing falls in is all zeros
pub contents-none : (f : ℕ) (bytes : List ℕ) → length bytes ≡ 0 → with_part (zeros 4096) f bytes ≡ zeros 4096
unfolding with_part
contents-none f bytes none = rw (nil_from_length bytes none) (take-append-drop f (zeros 4096))

-- a page of 4096 lent bytes is those
pub contents-whole : (f : ℕ) (bytes : List ℕ) → f + length bytes ≤ 4096 → length bytes ≡ 4096 → with_part (zeros 4096) f bytes ≡ bytes
unfolding with_part
contents-whole f bytes fits whole =
    let none : f ≡ 0 = omega arith in
    let rest : length (drop (length bytes) (drop f (zeros 4096))) ≡ 0 = simp length-drop (omega (arith, length-zeros 4096)) in
    let empty : drop (length bytes) (drop f (zeros 4096)) ≡ [] = nil_from_length _ rest in
    let first : take f (zeros 4096) ≡ [] = ap (λ n. take n (zeros 4096)) none in
    rw (first, empty) (append-nil bytes)

-- Pages of data that are kept as ranges: whether some page has data is whether a range meets theirs.
use Rattle.std.proofs.Common.{◌≡◌, ℕ, zero, suc, ◌+◌, ◌-◌, ◌*◌, ◌/◌, ◌%◌, ◌<◌, ◌≤◌, ◌∙◌, sym, refl, ap, arith, Bool, true, false, ◌&&◌, ◌||◌, leb, ltb, List, [], ◌∷◌, ◌++◌}
use Rattle.std.specs.List.{list_any}
use Rattle.std.proofs.lemmas.Bool.{and_parts}
use Rattle.std.proofs.lemmas.Bool.Decides.{nat_tests}
use Rattle.rmm_model.specs.Blocks.{granules, is_multiple}
use Rattle.rmm_model.specs.Space.{has, overlaps}
use Rattle.rmm_model.proofs.AppendedSpaces.{has-append}
use Rattle.rmm_model.proofs.TestsThatAgree.{list_any-same}
use Rattle.rtt_plan.specs.inside.PageRanges.{are_pages, pages_of}

-- ---- pages by their numbers

-- page j is one of n pages from page i on exactly where j is from i on and below i + n
has-numbered : (n i j : ℕ) → has (granules n (4096 * i)) (4096 * j) ≡ (leb i j && ltb j (i + n))
unfolding granules
has-numbered zero i j = grind (arith, nat_tests)
has-numbered (suc n) i j =
    let e : 4096 * i + 4096 ≡ 4096 * (i + 1) = omega arith in
    let h : has (granules n (4096 * (i + 1))) (4096 * j) ≡ (leb (i + 1) j && ltb j (i + 1 + n)) = has-numbered n (i + 1) j in
    rw (e, h) (grind (arith, nat_tests))

-- pages of one range are among those of another exactly where the ranges meet
any-numbered : (n m i j : ℕ) → 0 < m → list_any (has (granules m (4096 * i))) (granules (suc n) (4096 * j)) ≡ (ltb i (j + suc n) && ltb j (i + m))
unfolding granules
any-numbered zero m i j some = rw (has-numbered m i j) (grind (arith, nat_tests))
any-numbered (suc n) m i j some =
    let e : 4096 * j + 4096 ≡ 4096 * (j + 1) = omega arith in
    let h : list_any (has (granules m (4096 * i))) (granules (suc n) (4096 * (j + 1))) ≡ (ltb i (j + 1 + suc n) && ltb (j + 1) (i + m)) = any-numbered n m i (j + 1) some in
    rw (has-numbered m i j, e, h) (grind (arith, nat_tests))

-- ---- ranges

meets-numbered : (n m i j base top from : ℕ) → base ≡ 4096 * i → top ≡ 4096 * (i + m) → from ≡ 4096 * j → 0 < m
    → list_any (has (granules m base)) (granules (suc n) from) ≡ (ltb base (from + 4096 * suc n) && ltb from top)
meets-numbered n m i j base top from low high at some =
    let same : (ltb i (j + suc n) && ltb j (i + m)) ≡ (ltb (4096 * i) (4096 * j + 4096 * suc n) && ltb (4096 * j) (4096 * (i + m))) = grind (arith, nat_tests) in
    rw (low, high, at) (any-numbered n m i j some ∙ same)

-- a range of whole pages has one of some pages exactly where it meets them
range-meets : (n base top from : ℕ) → base % 4096 ≡ 0 → top % 4096 ≡ 0 → base < top → from % 4096 ≡ 0
    → list_any (has (granules ((top - base) / 4096) base)) (granules (suc n) from) ≡ (ltb base (from + 4096 * suc n) && ltb from top)
range-meets n base top from low high some at =
    meets-numbered n ((top - base) / 4096) (base / 4096) (from / 4096) base top from (omega arith) (omega arith) (omega arith) (omega arith)

any-either : (p q : ℕ → Bool) (xs : List ℕ) → list_any (λ x. p x || q x) xs ≡ (list_any p xs || list_any q xs)
any-either p q [] = refl
any-either p q (x ∷ xs) = let i : list_any (λ x. p x || q x) xs ≡ (list_any p xs || list_any q xs) = any-either p q xs in rw i (turned (p x) (q x) (list_any p xs) (list_any q xs))
  where
    turned : (a b c d : Bool) → ((a || b) || (c || d)) ≡ ((a || c) || (b || d))
    turned true b c d = refl
    turned false true true d = refl
    turned false true false d = refl
    turned false false c d = refl

any-of_none : (xs : List ℕ) → list_any (has []) xs ≡ false
any-of_none [] = refl
any-of_none (x ∷ xs) = any-of_none xs

-- ranges of whole pages have one of some pages exactly where one of them meets the range of these
any-assigned : (ranges : List (ℕ × ℕ)) (n from : ℕ) → are_pages ranges ≡ true → from % 4096 ≡ 0
    → list_any (has (pages_of ranges)) (granules (suc n) from) ≡ overlaps ranges from (from + 4096 * suc n)
any-assigned [] n from whole at = any-of_none (granules (suc n) from)
any-assigned (r ∷ rs) n from whole at =
    let parts = and_parts (is_multiple 4096 r.0 && is_multiple 4096 r.1 && ltb r.0 r.1) (are_pages rs) whole in
    let here = parts.0 in
    let pages : List ℕ = granules ((r.1 - r.0) / 4096) r.0 in
    let first : list_any (has pages) (granules (suc n) from) ≡ (ltb r.0 (from + 4096 * suc n) && ltb from r.1) =
    range-meets n r.0 r.1 from (grind (arith, nat_tests)) (grind (arith, nat_tests)) (grind (arith, nat_tests)) at in
    list_any-same (has (pages ++ pages_of rs)) (λ x. has pages x || has (pages_of rs) x) (granules (suc n) from) (has-append pages (pages_of rs))
    ∙ any-either (has pages) (has (pages_of rs)) (granules (suc n) from)
    ∙ ap (λ b. b || list_any (has (pages_of rs)) (granules (suc n) from)) first
    ∙ ap (λ b. (ltb r.0 (from + 4096 * suc n) && ltb from r.1) || b) (any-assigned rs n from parts.1 at)

pub assigned-overlaps : (ranges : List (ℕ × ℕ)) (count from : ℕ) → are_pages ranges ≡ true → from % 4096 ≡ 0 → 1 ≤ count
    → overlaps ranges from (from + 4096 * count) ≡ list_any (has (pages_of ranges)) (granules count from)
assigned-overlaps ranges zero from whole at some = absurd (omega arith)
assigned-overlaps ranges (suc n) from whole at some = sym (any-assigned ranges n from whole at)

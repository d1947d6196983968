-- Digests of messages that are hashed side by side are those of the pages in their places.
use Rattle.std.proofs.Common.{◌≡◌, ℕ, zero, suc, ◌<◌, ◌≤◌, List, [], ◌∷◌, ◌++◌, length, map, take, drop, slice_get, slice_index_or, Some, refl, ap, sym, ◌∙◌}
use Rattle.std.proofs.Common.{arith, subst}
use Rattle.std.proofs.lemmas.List.{drop-map, length-map, length-take, take-map}
use Rattle.std.proofs.lemmas.Option.{none-some, same_Some, slice_get_within}
use Rattle.std.specs.Borrow.{Bor}
use Rattle.std.specs.Prelude.{IfSome}
use Rattle.rim_desc.specs.Measurement.{measurement_of}
use Rattle.rim_desc.specs.declared.measurement.Algo.{Algo}
use Rattle.rim_desc.specs.declared.measurement.Measurement.{Measurement}
use Rattle.page_jobs.specs.Lent.{front_of}
use Rattle.page_jobs.specs.Group.{AreDigests}
use Rattle.page_jobs.specs.Page.{PageView, digest_of, page_view}
use Rattle.page_jobs.specs.declared.page.Page.{Page}
use Rattle.page_jobs.specs.inside.Lanes.{IsWhole}
use Rattle.page_jobs.proofs.BytesOfPages.{contents-whole}

-- the digest in place k of the first n is that of message k
pub digest_of_lane : (algo : Algo) (lanes : List (Bor (List ℕ))) (digests rest : List Measurement) (n : ℕ)
    → map (λ (m : Measurement). m.bytes) digests ≡ map (λ (b : Bor (List ℕ)). measurement_of algo b.now) lanes → n ≤ length lanes
    → (k : ℕ) (m : Measurement) → slice_get (take n (digests ++ rest)) k ≡ Some m
    → (b : Bor (List ℕ)) × (slice_get lanes k ≡ Some b) × (m.bytes ≡ measurement_of algo b.now) × (k < n)
digest_of_lane algo lanes digests rest zero same room k m there = absurd (none-some m there)
digest_of_lane algo [] digests rest (suc n) same room k m there = absurd (omega (arith, room))
digest_of_lane algo (b ∷ lanes) [] rest (suc n) same room k m there = absurd (omega (arith, ap length same))
digest_of_lane algo (b ∷ lanes) (d ∷ digests) rest (suc n) same room zero m there =
    (b, refl, ap (λ (x : Measurement). x.bytes) (sym (same_Some d m there)) ∙ ap (λ (l : List (List ℕ)). slice_index_or l 0 []) same, omega arith)
digest_of_lane algo (b ∷ lanes) (d ∷ digests) rest (suc n) same room (suc k) m there =
    let later = digest_of_lane algo lanes digests rest n (ap (λ (l : List (List ℕ)). drop 1 l) same) (omega (arith, room)) k m there in
    (later.0, later.1, later.2, omega (arith, later.3))

pub no_more : (pages : List Page) (n : ℕ) (digests : List Measurement) → n ≤ length pages → length (take n digests) ≤ length (map page_view pages)
no_more pages n digests room = omega (arith, room, length-take n digests, length-map pages page_view)

-- what is known of a page by its number among some
pub page_at : (pages : List Page) (k : ℕ) (p : PageView) → slice_get (map page_view pages) k ≡ Some p → (x : Page) × (page_view x ≡ p)
page_at [] k p there = absurd (none-some p there)
page_at (x ∷ pages) zero p there = (x, same_Some (page_view x) p there)
page_at (x ∷ pages) (suc k) p there = page_at pages k p there

whole_page : (algo : Algo) (x : Page) → IsWhole algo (page_view x) → measurement_of algo x.bytes.now ≡ digest_of (page_view x)
whole_page algo x whole =
    let contents = contents-whole (front_of x.key.lead x.key.number) x.bytes.now x.fits whole.1 in
    rw (whole.0, contents) refl

-- the measurement of a whole page is that of its item's bytes
pub digest_of_whole : (algo : Algo) (pages : List Page) (k : ℕ) (p : PageView) → slice_get (map page_view pages) k ≡ Some p → IsWhole algo p
    → measurement_of algo p.bytes ≡ digest_of p
digest_of_whole algo pages k p there whole =
    let found = page_at pages k p there in
    subst (λ (q : PageView). measurement_of algo q.bytes ≡ digest_of q) found.1 (whole_page algo found.0 (subst (IsWhole algo) (sym found.1) whole))

-- a message is the bytes of the page of its number, where that is one of the first n
abbrev pub IsLane : List Page → ℕ → ℕ → Bor (List ℕ) → Type 0
IsLane pages n k b = k < n → IfSome (slice_get (map page_view pages) k) (λ p. b.now ≡ p.bytes)

-- each element of a list, by its number, has a property
abbrev pub Each : {A : Type 0} → (ℕ → A → Type 0) → List A → Type 0
Each P [] = Unit {0}
Each P (x ∷ xs) = P 0 x × Each (λ k. P (suc k)) xs

pub each_at : {A : Type 0} (P : ℕ → A → Type 0) (xs : List A) (n k : ℕ) (x : A) → Each P xs → slice_get (take n xs) k ≡ Some x → P k x
each_at P xs zero k x each there = absurd (none-some x there)
each_at P [] (suc n) k x each there = absurd (none-some x there)
each_at P (y ∷ xs) (suc n) zero x each there = subst (P 0) (same_Some y x there) each.0
each_at P (y ∷ xs) (suc n) (suc k) x each there = each_at (λ j. P (suc j)) xs n k x each.1 there

slice_get-take : {A : Type 0} (xs : List A) (n k : ℕ) (x : A) → k < length (take n xs) → slice_get xs k ≡ Some x → slice_get (take n xs) k ≡ Some x
slice_get-take xs zero k x low there = absurd (omega arith)
slice_get-take [] (suc n) k x low there = there
slice_get-take (y ∷ xs) (suc n) zero x low there = there
slice_get-take (y ∷ xs) (suc n) (suc k) x low there = slice_get-take xs n k x (omega (arith, low)) there

-- digests of the first of some pages are those of a part of a list that begins with them
pub digests_of_part : (pages : List Page) (from count : ℕ) (digests : List Measurement)
    → AreDigests (map page_view (take count (drop from pages))) digests → AreDigests (drop from (map page_view pages)) digests
digests_of_part pages from count digests are =
    let front : map page_view (take count (drop from pages)) ≡ take count (drop from (map page_view pages)) =
    sym (take-map page_view count (drop from pages)) ∙ ap (take count) (sym (drop-map page_view from pages)) in
    let part = rw front at are in
    record {
      within = omega (arith, part.within, length-take count (drop from (map page_view pages)));
      own = λ k p m here there.
          part.own k p m (slice_get-take (drop from (map page_view pages)) count k p
          (omega (arith, part.within, slice_get_within digests k m there)) here) there;
    }

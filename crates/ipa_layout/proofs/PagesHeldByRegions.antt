-- From a page that a region holds, all pages below the region's end are held.
use Rattle.std.proofs.Common.{◌≡◌, ℕ, ◌+◌, ◌-◌, ◌*◌, ◌/◌, ◌<◌, ◌≤◌, min, Bool, true, List, Some, None, ap, arith, sym}
use Rattle.std.specs.Prelude.{not}
use Rattle.std.specs.List.{find, range_with_len}
use Rattle.std.proofs.lemmas.Grind.{common_steps}
use Rattle.rim_launch.specs.declared.item.Region.{Region}
use Rattle.ipa_layout.specs.Memory.{first_unheld, holds, is_held}
use Rattle.ipa_layout.proofs.TestsOfNumbers.{find-end, find-jump, find-stop}
use Rattle.ipa_layout.proofs.FoundInLists.{found-any, found-none, found-passes}

-- what a region that holds a page says of its numbers
holds-says : (page : ℕ) (r : Region) → holds page r ≡ true → (r.base ≤ 4096 * page) × (4096 * page + 4096 ≤ r.end)
holds-says page r h = (grind (arith, common_steps), grind (arith, common_steps))

says-holds : (page : ℕ) (r : Region) → r.base ≤ 4096 * page → 4096 * page + 4096 ≤ r.end → holds page r ≡ true
says-holds page r low high = grind (arith, common_steps)

-- the region ends after the page
pub holder-behind : (ram : List Region) (page : ℕ) (r : Region) → find (holds page) ram ≡ Some r → page + 1 ≤ r.end / 4096
holder-behind ram page r e = let h = holds-says page r (found-passes (holds page) ram r e) in omega (arith, h.1)

-- it holds each page up to its end
held-below : (ram : List Region) (page : ℕ) (r : Region) → find (holds page) ram ≡ Some r → (k : ℕ) → page ≤ k → k < r.end / 4096 → is_held ram k ≡ true
held-below ram page r e k low high =
    let h = holds-says page r (found-passes (holds page) ram r e) in
    let base : r.base ≤ 4096 * k = omega (arith, h.0) in
    let top : 4096 * k + 4096 ≤ r.end = omega arith in
    found-any (holds page) (holds k) ram r e (says-holds k r base top)

-- so the search may go on after it
pub held-jump : (ram : List Region) (page end next : ℕ) (r : Region) → find (holds page) ram ≡ Some r → page < end → next ≡ min end (r.end / 4096)
    → first_unheld ram next (end - next) ≡ first_unheld ram page (end - page)
unfolding first_unheld
held-jump ram page end next r e below is =
    let unheld : ℕ → Bool = λ k. not (is_held ram k) in
    let behind : page + 1 ≤ r.end / 4096 = holder-behind ram page r e in
    let parts : end - page ≡ (next - page) + (end - next) = omega arith in
    let there : page + (next - page) ≡ next = omega arith in
    let jump : find unheld (range_with_len page ((next - page) + (end - next))) ≡ find unheld (range_with_len (page + (next - page)) (end - next)) =
    find-jump unheld page (next - page) (end - next) (λ k low high. ap not (held-below ram page r e k low (omega arith))) in
    rw parts (rw there at (sym jump))

-- a page that none holds
pub held-stop : (ram : List Region) (page end : ℕ) → find (holds page) ram ≡ None → page < end → first_unheld ram page (end - page) ≡ Some page
unfolding first_unheld
held-stop ram page end e below =
    find-stop (λ k. not (is_held ram k)) page (end - page) (end - page - 1) (omega arith) (ap not (found-none (holds page) ram e))

pub held-end : (ram : List Region) (page end : ℕ) → end ≤ page → first_unheld ram page (end - page) ≡ None
unfolding first_unheld
held-end ram page end h = find-end (λ k. not (is_held ram k)) page (end - page) (omega arith)

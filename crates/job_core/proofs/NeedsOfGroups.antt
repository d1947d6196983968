-- Needs that are kept in groups are numbers of pages.
use Rattle.std.proofs.Common.{◌≡◌, ℕ, suc, ◌+◌, ◌<◌, ◌≤◌, Bool, true, false, List, [], ◌∷◌, get_or, map, Some, Vec, Global, refl, sym, subst, arith}
use Rattle.std.specs.Prelude.{◌==◌, if◌then◌else◌}
use Rattle.std.specs.List.{All, flat_map, range_with_len, slice_get}
use Rattle.std.proofs.lemmas.List.Elements.{All-append}
use Rattle.std.proofs.lemmas.List.FromFn.{get_or-map-range_with_len, get_or-range_with_len, length-map-range_with_len, length-range_with_len}
use Rattle.job_core.specs.declared.reaches.Reach.{Reach}
use Rattle.job_core.specs.declared.reaches.PageGroup.{PageGroup}
use Rattle.job_core.specs.declared.needs.Needs.TheVariants.{Reaches}
use Rattle.job_core.specs.Jobs.{NeedsWithin}
use Rattle.job_core.specs.inside.Needs.{AreNeeds}
use Rattle.job_core.specs.inside.Reaches.{AreGroups, group_needs, reach_needs}
use Rattle.job_core.proofs.ReadyByReaches.{reach_index}

abbrev pub expand : ℕ → ℕ → Reach → List ℕ
expand l first q = if q.launch == l then range_with_len first q.count else []

-- ---- all needs are numbers of pages

range_within : (a n pages : ℕ) → a + n ≤ pages → All (λ p. p < pages) (range_with_len a n)
range_within a n pages le = λ k d lt.
    let below : k < n = omega (arith, lt, length-range_with_len a n) in
    omega (arith, le, below, get_or-range_with_len a n k d below)

choice_within : (b : Bool) (xs : List ℕ) (pages : ℕ) → All (λ p. p < pages) xs → All (λ p. p < pages) (if b then xs else [])
choice_within true xs pages h = h
choice_within false xs pages h = λ k d lt. absurd (omega (arith, lt))

group_within : (l first pages : ℕ) (qs : List Reach) → ((k : ℕ) (q : Reach) → slice_get qs k ≡ Some q → first + q.count ≤ pages) → All (λ p. p < pages) (flat_map (expand l first) qs)
group_within l first pages [] h = λ k d lt. absurd (omega (arith, lt))
group_within l first pages (q ∷ qs) h =
    All-append (λ p. p < pages) (expand l first q) (flat_map (expand l first) qs) (choice_within (q.launch == l) (range_with_len first q.count) pages (range_within first q.count pages (h 0 q refl))) (group_within l first pages qs (λ k r at. h (suc k) r at))

groups_within : (l pages : ℕ) (gs : List PageGroup) → ((i k : ℕ) (g : PageGroup) (q : Reach) → slice_get gs i ≡ Some g → slice_get g.reaches.items k ≡ Some q → g.first + q.count ≤ pages) → All (λ p. p < pages) (reach_needs gs l)
groups_within l pages [] h = λ k d lt. absurd (omega (arith, lt))
groups_within l pages (g ∷ gs) h =
    All-append (λ p. p < pages) (group_needs l g) (reach_needs gs l) (group_within l g.first pages g.reaches.items (λ k q at. h 0 k g q refl at)) (groups_within l pages gs (λ i k u q gat at. h (suc i) k u q gat at))

pub reaches_within : (pages launches : ℕ) (gs : List PageGroup) → AreGroups pages launches gs → NeedsWithin (map (reach_needs gs) (range_with_len 0 launches)) pages
reaches_within pages launches gs are = λ l d lt.
    let below : l < launches = omega (arith, lt, length-map-range_with_len (reach_needs gs) 0 launches) in
    let at : get_or (map (reach_needs gs) (range_with_len 0 launches)) l d ≡ reach_needs gs l = get_or-map-range_with_len (reach_needs gs) 0 launches l l d below (omega arith) in
    subst (λ (ns : List ℕ). All (λ p. p < pages) ns) (sym at) (groups_within l pages gs (λ i k g q gat qat. let is = are.each i g gat in let named = is.named k q qat in let within = is.within in omega (arith, named.2, within)))

pub reaches_are_needs : (pages launches : ℕ) (v : Vec PageGroup Global) → AreGroups pages launches v.items → AreNeeds pages (Reaches launches v)
reaches_are_needs pages launches v are = record {
  within = reaches_within pages launches v.items are;
  groups = subst (λ (n : ℕ). AreGroups pages n v.items) (sym (length-map-range_with_len (reach_needs v.items) 0 launches)) are;
  index = reach_index pages launches v.items are;
}

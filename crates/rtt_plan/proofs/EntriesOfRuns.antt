-- How many entries a run has.
use Rattle.std.proofs.Common.{◌≡◌, ℕ, zero, suc, ◌+◌, ◌-◌, ◌/◌, ◌≤◌, ◌∙◌, sym, refl, ap, arith, List, ◌∷◌, length}
use Rattle.std.proofs.lemmas.List.{length-append, length-map}
use Rattle.rmm_model.specs.Blocks.{size, stretches}
use Rattle.rtt_plan.specs.Entries.{entries_from}
use Rattle.rtt_plan.specs.Places.{AtEntry, IsRegion}
use Rattle.rtt_plan.specs.Following.{block_of, blocks_of}
use Rattle.rtt_plan.specs.Runs.{runs_from}
use Rattle.rtt_plan.specs.declared.run.Run.{Run}
use Rattle.rtt_plan.proofs.RunsCoverRegion.{blocks-from}

length-stretches : (n s x : ℕ) → length (stretches n s x) ≡ n
unfolding stretches
length-stretches zero s x = refl
length-stretches (suc n) s x = omega (arith, length-stretches n s (x + s))

length-blocks : (r : Run) (rs : List Run) → length (blocks_of (r ∷ rs)) ≡ (r.top - r.base) / size r.level + length (blocks_of rs)
unfolding blocks_of
length-blocks r rs =
    length-append (stretches ((r.top - r.base) / size r.level) (size r.level) r.base) (blocks_of rs)
    ∙ ap (λ (n : ℕ). n + length (blocks_of rs)) (length-stretches ((r.top - r.base) / size r.level) (size r.level) r.base)

-- the blocks of runs are as many as the entries
as-many : (base end least_level x : ℕ) → IsRegion base end → least_level ≤ 3 → AtEntry base end least_level x
    → length (blocks_of (runs_from base end least_level x)) ≡ length (entries_from base end least_level x)
as-many base end least_level x region low at =
    ap length (blocks-from base end least_level x region low at) ∙ length-map (entries_from base end least_level x) (block_of base end least_level)

-- the entries from x on: those of the first run, which has n bytes in each, and those after it
pub count-run : (base end least_level x n : ℕ) (r : Run) → IsRegion base end → least_level ≤ 3 → AtEntry base end least_level x → AtEntry base end least_level r.top
    → runs_from base end least_level x ≡ r ∷ runs_from base end least_level r.top → r.base ≡ x → n ≡ size r.level
    → (r.top - x) / n + length (entries_from base end least_level r.top) ≡ length (entries_from base end least_level x)
count-run base end least_level x n r region low at next first begin bytes =
    ap (λ (a : ℕ). (r.top - a) / n + length (entries_from base end least_level r.top)) (sym begin)
    ∙ ap (λ (s : ℕ). (r.top - r.base) / s + length (entries_from base end least_level r.top)) bytes
    ∙ ap (λ (m : ℕ). (r.top - r.base) / size r.level + m) (sym (as-many base end least_level r.top region low next))
    ∙ sym (length-blocks r (runs_from base end least_level r.top))
    ∙ ap (λ rs. length (blocks_of rs)) (sym first)
    ∙ as-many base end least_level x region low at

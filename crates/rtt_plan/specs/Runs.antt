-- Runs: the longest groups of neighbouring entries of one level in one table. Each is set by one
-- InitRipas (this project's choice).
use Rattle.std.specs.Prelude.{ℕ, ◌+◌, ◌/◌, ◌&&◌, ◌==◌, Bool, List, [], ◌∷◌, if◌then◌else◌}
use Rattle.rmm_model.specs.Blocks.{size, span}
use Rattle.rtt_plan.specs.Entries.{block_level, entries_from}
use Rattle.rtt_plan.specs.declared.run.Run.{Run}

-- whether an entry of a level at x is in the table of a run, at its level
abbrev pub goes_with : ℕ → ℕ → Run → Bool
goes_with l x r = r.level == l && r.base / span l == x / span l

-- an entry put in front of runs: it joins the first of them where level and table are equal
abbrev pub put : ℕ → ℕ → List Run → List Run
put l x [] = record { base = x; top = x + size l; level = l } ∷ []
put l x (r ∷ rs) =
    if goes_with l x r then record { base = x; top = r.top; level = l } ∷ rs
    else record { base = x; top = x + size l; level = l } ∷ r ∷ rs

-- the runs of entries that follow one another, each with its level
unfoldable pub group : (ℕ → ℕ) → List ℕ → List Run
group level [] = []
group level (x ∷ xs) = put (level x) x (group level xs)

-- the runs of the entries from x on
abbrev pub runs_from : ℕ → ℕ → ℕ → ℕ → List Run
runs_from base end least_level x = group (block_level base end least_level) (entries_from base end least_level x)

-- the runs of a region
abbrev pub runs_of : ℕ → ℕ → ℕ → List Run
runs_of base end least_level = runs_from base end least_level base

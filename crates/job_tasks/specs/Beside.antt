-- Launches that are chained side by side. This project's choice.
use Rattle.std.specs.Prelude.{◌<◌, ℕ, List, length, Option, IfSome, slice_index_or}
use Rattle.rim_chain.specs.Chains.{ChainView, IsUnderWay}
use Rattle.rim_chain.specs.Jobs.{JobView}

-- each chain is that of the launch in its place, where there is one
abbrev pub AreUnderWay : List (Option JobView) → List ChainView → Type 0
AreUnderWay jobs chains = (k : ℕ) (d : Option JobView) (c : ChainView) → k < length jobs
    → IfSome (slice_index_or jobs k d) (λ job. IsUnderWay job (slice_index_or chains k c))

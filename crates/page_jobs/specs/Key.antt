-- Keys of pages, and their order. This project's choice.
use Rattle.std.specs.Prelude.{◌≡◌, ◌+◌, List, [], ◌∷◌}
use Rattle.std.specs.List.{AllPairs}
use Rattle.std.specs.Ordering.{nat_cmp, ordering_then}
use Rattle.std.specs.declared.cmp.Ordering.{Ordering}
use Rattle.std.specs.declared.cmp.Ordering.TheVariants.{Less, Equal, Greater}
use Rattle.rim_desc.specs.Measurement.{algo_value}
use Rattle.rim_desc.specs.Source.{source_cmp}
use Rattle.page_jobs.specs.declared.page.PageKey.{PageKey}

-- by the algorithm, then by the source, then by the lead, then by the number
abbrev pub key_cmp : PageKey → PageKey → Ordering
key_cmp a b = ordering_then (nat_cmp (algo_value a.algo) (algo_value b.algo))
    (ordering_then (source_cmp a.source b.source) (ordering_then (nat_cmp a.lead b.lead) (nat_cmp a.number b.number)))

-- each key is below those after it
abbrev pub IsRising : List PageKey → Type 0
IsRising keys = AllPairs (λ a b. key_cmp a b ≡ Less) keys

-- the key of the page after this one in the same item
abbrev pub next_key : PageKey → PageKey
next_key key = record key { number = key.number + 1 }

-- keys that rise, with one more in its place, unless it is one of them
abbrev pub with_key : PageKey → List PageKey → List PageKey
with_key key [] = key ∷ []
with_key key (first ∷ others) = elim (key_cmp key first) [
  | Less ↦ key ∷ (first ∷ others)
  | Equal ↦ first ∷ others
  | Greater ↦ first ∷ with_key key others
]

-- the keys of a list in their order, each of them once
abbrev pub rising_keys : List PageKey → List PageKey
rising_keys [] = []
rising_keys (key ∷ keys) = with_key key (rising_keys keys)

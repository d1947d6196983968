-- Prefixes of plans: what launches that begin alike have in common. This project's choice.
use Rattle.std.specs.Prelude.{◌≡◌, ℕ, ◌≤◌, List, length, take}
use Rattle.rim_desc.specs.declared.measurement.Measurement.{Measurement}
use Rattle.launch_plan.specs.Links.{PlanView, chain_of, keys_of}
use Rattle.launch_plan.specs.declared.prefix.Prefix.{Prefix}

-- the prefix of n links: the realm of a plan, and its first n links
abbrev pub prefix_of : ℕ → PlanView → PlanView
prefix_of n p = record { params = p.params; links = take n p.links }

-- what the prefix of n links chains to: its pages are the first ones of the plan
abbrev pub prefix_value : ℕ → PlanView → List Measurement → List ℕ
prefix_value n p digests = chain_of (prefix_of n p) (take (length (keys_of (take n p.links))) digests)

-- a prefix of this plan, with what it chains to where the plan's pages have these digests
abbrev pub IsPrefix : PlanView → List Measurement → Prefix → Type 0
IsPrefix p digests f = (f.links ≤ length p.links) × (f.value.bytes ≡ prefix_value f.links p digests)

-- two plans have the same prefix of n links
abbrev pub HavePrefix : ℕ → PlanView → PlanView → Type 0
HavePrefix n a b = (n ≤ length a.links) × (n ≤ length b.links) × (prefix_of n a ≡ prefix_of n b)

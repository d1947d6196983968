-- Rows of digests that belong to a plan. This project's choice.
use Rattle.std.specs.Prelude.{◌≡◌, ℕ, ◌<◌, Bool, true, List, map, length, take, Some, is_some}
use Rattle.std.specs.List.{filter_map, list_all}
use Rattle.rim_desc.specs.declared.measurement.Measurement.{Measurement}
use Rattle.page_jobs.specs.Table.{TableView, digest_at, digest_in}
use Rattle.page_jobs.specs.declared.page.PageKey.{PageKey}
use Rattle.launch_plan.specs.Links.{PlanView, chain_of, keys_of}
use Rattle.launch_plan.specs.declared.link.Link.{Link}

-- the digests are those that a table has for the keys, in order
abbrev pub IsRowOf : TableView → List PageKey → List Measurement → Type 0
IsRowOf t keys digests = map (digest_at t) keys ≡ map (λ d. Some d) digests

-- whether a table has a digest for each of the keys
abbrev pub has_all : TableView → List PageKey → Bool
has_all t keys = list_all (λ key. is_some (digest_at t key)) keys

-- as many digests as a plan has measured pages
abbrev pub IsFilled : PlanView → List Measurement → Type 0
IsFilled p digests = length digests ≡ length (keys_of p.links)

-- the pages of the first n links are the first pages of other links
abbrev pub HaveFirstPages : ℕ → List Link → List Link → Type 0
HaveFirstPages n links others = (m : ℕ) × (keys_of (take n links) ≡ keys_of (take m others))

-- all slots of a table are filled
abbrev pub IsFull : TableView → Type 0
IsFull t = (j : ℕ) → j < length t.pages → is_some (digest_in t j) ≡ true

-- what a plan chains to, with the digests that a table has for its pages. Keys without a digest are left out; a board asks
-- for this only of a launch that is done, whose pages are then done and have one each
abbrev pub value_in : TableView → PlanView → List ℕ
value_in t p = chain_of p (filter_map (digest_at t) (keys_of p.links))

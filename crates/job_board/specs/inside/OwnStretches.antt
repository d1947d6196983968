-- The stretches of pages that the links of plans need. This project's choice.
use Rattle.std.specs.Prelude.{ℕ, ◌+◌, ◌==◌, if◌then◌else◌, List, [], ◌∷◌, ◌++◌, Option, Some, None}
use Rattle.std.specs.List.{flat_map}
use Rattle.page_jobs.specs.Page.{PageView}
use Rattle.page_jobs.specs.Table.{slot_of}
use Rattle.launch_plan.specs.Links.{PlanView}
use Rattle.launch_plan.specs.declared.link.Link.{Link}
use Rattle.launch_plan.specs.declared.link.Link.TheVariants as link
use Rattle.job_board.specs.declared.grouping.Stretch.{Stretch}

-- some pages of a launch, from a slot on; none where no page has the slot
abbrev pub stretch_at : ℕ → ℕ → Option ℕ → List Stretch
stretch_at l count None = []
stretch_at l count (Some first) = if count == 0 then [] else record { first = first; count = count; launch = l } ∷ []

-- the pages of a link, in the slots from that of the first one on
abbrev pub link_stretches : List PageView → ℕ → Link → List Stretch
link_stretches pages l (link.Blocks base size count) = []
link_stretches pages l (link.Pages ipa key count) = stretch_at l count (slot_of pages key)
link_stretches pages l (link.Unmeasured ipa count) = []
link_stretches pages l (link.Rec content) = []

abbrev pub plan_stretches : List PageView → ℕ → PlanView → List Stretch
plan_stretches pages l p = flat_map (link_stretches pages l) p.links

-- those of launches with these plans, of which the first has number l
abbrev pub stretches_from : List PageView → ℕ → List PlanView → List Stretch
stretches_from pages l [] = []
stretches_from pages l (p ∷ ps) = plan_stretches pages l p ++ stretches_from pages (l + 1) ps

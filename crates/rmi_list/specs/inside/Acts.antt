-- The item whose pages acts create, and the room that they need. This project's choice.
use Rattle.std.specs.Prelude.{ℕ, ◌+◌, ◌*◌, ◌^◌, ◌≤◌, List, [], ◌∷◌, Option, Some, option_map}
use Rattle.rtt_plan.specs.declared.act.Act.{Act}
use Rattle.rtt_plan.specs.declared.act.Act.TheVariants as act
use Rattle.list_model.specs.inside.Acts.{ItemOf, pages_in}
use Rattle.rmi_list.specs.declared.draft.ItemPages.{ItemPages}
use Rattle.rim_desc.specs.declared.page.TheConstants.{PAGE_SIZE}

abbrev pub item_of : Option ItemPages → ItemOf
item_of item = option_map (λ i. (i.known, i.number)) item

-- from page k of an item on, pages are named in 32 bits and have an IPA of 47
abbrev pub HasRoom : ItemOf → ℕ → Act → Type 0
HasRoom (Some item) k (act.Pages base count) = (k + count ≤ 2 ^ 32) × (base + PAGE_SIZE * count ≤ 2 ^ 47)
HasRoom item k a = Unit {0}

-- so have those of some acts
unfoldable pub HaveRoom : ItemOf → ℕ → List Act → Type 0
HaveRoom item k [] = Unit {0}
HaveRoom item k (a ∷ acts) = HasRoom item k a × HaveRoom item (k + pages_in item a) acts

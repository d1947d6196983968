-- Which links a plan may have. This project's choice.
use Rattle.std.specs.Prelude.{◌≡◌, ◌+◌, ◌*◌, ◌^◌, ◌<◌, ⊤, List, length}
use Rattle.std.specs.List.{All}
use Rattle.launch_plan.specs.Links.{keys_of}
use Rattle.launch_plan.specs.declared.link.Link.{Link}
use Rattle.launch_plan.specs.declared.link.Link.TheVariants as link
use Rattle.rim_desc.specs.declared.page.TheConstants.{PAGE_SIZE}

-- the end of a link's addresses and of its page numbers has 64 bits
abbrev pub IsFitting : Link → Type 0
IsFitting (link.Blocks base size count) = base + count * size < 2 ^ 64
IsFitting (link.Pages ipa key count) = (ipa + PAGE_SIZE * count < 2 ^ 64) × (key.number + count < 2 ^ 64)
IsFitting (link.Unmeasured ipa count) = ipa + PAGE_SIZE * count < 2 ^ 64
IsFitting (link.Rec content) = ⊤

-- a link's pages are the first ones of their item
abbrev pub BeginsItem : Link → Type 0
BeginsItem (link.Blocks base size count) = ⊤
BeginsItem (link.Pages ipa key count) = key.number ≡ 0
BeginsItem (link.Unmeasured ipa count) = ⊤
BeginsItem (link.Rec content) = ⊤

-- links that fit, whose pages are the first ones of their items, with a number of measured pages that has 64 bits
abbrev pub AreFitting : List Link → Type 0
AreFitting links = All IsFitting links × All BeginsItem links × (length (keys_of links) < 2 ^ 64)

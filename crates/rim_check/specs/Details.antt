-- What is said of the reason for which a launch is refused: what is given, and what is expected. This project's choice.
use Rattle.std.specs.Prelude.{ℕ, ◌+◌, ◌*◌, false, List, [], ◌++◌, codes, decimal}
use Rattle.std.specs.Fmt.{digits}
use Rattle.arm64_image.specs.declared.ImageFault.TheVariants.{BadMagic, Short as Cut}
use Rattle.rmm_model.specs.Start.{protected_end}
use Rattle.rim_launch.specs.declared.config.Config.{Config}
use Rattle.rim_launch.specs.declared.step.Step.{Step}
use Rattle.rim_launch.specs.declared.step.Step.TheVariants as step
use Rattle.ipa_layout.specs.declared.reason.ItemExtent.{ItemExtent}
use Rattle.ipa_layout.specs.declared.reason.ItemReason.{ItemReason}
use Rattle.ipa_layout.specs.declared.reason.ItemReason.TheVariants as item
use Rattle.ipa_layout.specs.declared.reason.LayoutReason.{LayoutReason}
use Rattle.ipa_layout.specs.declared.reason.LayoutReason.TheVariants as layout
use Rattle.rmi_list.specs.declared.reason.ListReason.{ListReason}
use Rattle.rmi_list.specs.declared.reason.ListReason.TheVariants as list
use Rattle.rtt_plan.specs.declared.fault.PlanFault.{PlanFault}
use Rattle.rtt_plan.specs.declared.fault.PlanFault.TheVariants as plan
use Rattle.rmi_list.specs.declared.reason.StepReason.{StepReason}
use Rattle.rmi_list.specs.declared.reason.StepReason.TheVariants as why
use Rattle.rim_rules.specs.Kinds.{step_front}
use Rattle.rim_rules.specs.declared.kind.StepKind.TheVariants as about
use Rattle.rim_accepted.specs.declared.reason.LaunchReason.{LaunchReason}
use Rattle.rim_accepted.specs.declared.reason.LaunchReason.TheVariants as launch
use Rattle.rim_desc.specs.declared.page.TheConstants.{PAGE_SIZE}
use Rattle.rim_desc.specs.declared.rec.TheConstants.{REC_LIMIT}
use Rattle.rtt_plan.specs.declared.counting.TheConstants.{ENTRY_LIMIT}
use Rattle.fdt_header.specs.declared.header.TheConstants.{SIZE_LIMIT}
use Rattle.ipa_layout.specs.declared.item_check.TheConstants.{PAGE_LIMIT}

-- a number in hexadecimal digits
abbrev pub hexadecimal : ℕ → List ℕ
hexadecimal n = codes "0x" ++ digits 16 false n

-- addresses from `base` on and below `end`
abbrev pub range_text : ℕ → ℕ → List ℕ
range_text base end = hexadecimal base ++ (codes " to " ++ hexadecimal end)

-- ---- the layout

-- why an item of this name is refused
abbrev pub item_detail : List ℕ → ItemReason → List ℕ
item_detail name (item.Kernel Cut count) = codes "item \"" ++ (name ++ (codes "\": its file has " ++ (decimal count ++ codes " bytes")))
item_detail name (item.Kernel BadMagic count) = codes "item \"" ++ (name ++ codes "\": bytes 56 to 59 of its file are not those of an arm64 Image")
item_detail name (item.Edits fault) = codes "item \"" ++ (name ++ codes "\": its file cannot be edited as a devicetree")
item_detail name (item.TooLarge size) = codes "item \"" ++ (name ++ (codes "\": size " ++ decimal size))
item_detail name (item.Unaligned at) = codes "item \"" ++ (name ++ (codes "\" at " ++ hexadecimal at))
item_detail name (item.KernelBase at) = codes "item \"" ++ (name ++ (codes "\" at " ++ hexadecimal at))
item_detail name (item.Short size count) = codes "item \"" ++ (name ++ (codes "\": size " ++ decimal size))
item_detail name (item.TooManyPages pages) = codes "with item \"" ++ (name ++ (codes "\" the launch has " ++ (decimal pages ++ codes " pages")))
item_detail name (item.PastEnd range) = codes "item \"" ++ (name ++ (codes "\" " ++ (range_text range.base range.end ++ codes " ends past 2^64")))
item_detail name (item.OutsideRam range page) = codes "item \"" ++ (name ++ (codes "\" " ++ (range_text range.base range.end ++ (codes " is not in ram: no region has all of the page " ++ hexadecimal (PAGE_SIZE * page)))))

-- and what is expected of it, where that is said
abbrev pub item_expected : ItemReason → List ℕ
item_expected (item.Kernel Cut count) = codes "at least 64"
item_expected (item.TooLarge size) = codes "at most " ++ decimal SIZE_LIMIT
item_expected (item.Unaligned at) = codes "a multiple of 8"
item_expected (item.KernelBase at) = codes "a multiple of 0x200000"
item_expected (item.Short size count) = codes "at least its " ++ (decimal count ++ codes " bytes")
item_expected (item.TooManyPages pages) = codes "at most " ++ decimal PAGE_LIMIT
item_expected _ = []

-- two items with their extents
abbrev pub pair_text : (ℕ → List ℕ) → ItemExtent → ItemExtent → List ℕ
pair_text names a b = codes "items \"" ++ (names a.item ++ (codes "\" " ++ (range_text a.extent.address (a.extent.address + a.extent.len) ++ (codes " and \"" ++ (names b.item ++ (codes "\" " ++ range_text b.extent.address (b.extent.address + b.extent.len)))))))

-- why a launch is not laid out whose items have these names
abbrev pub layout_detail : (ℕ → List ℕ) → LayoutReason → List ℕ
layout_detail names (layout.Item n why) = item_detail (names n) why
layout_detail names (layout.Overlap first second) = pair_text names first second
layout_detail names (layout.InitrdWindow kernel initrd) = pair_text names kernel initrd

-- ---- the list

abbrev pub pool_text : Config → List ℕ
pool_text c = codes "the pool of " ++ (decimal c.pool_count ++ (codes " granules from " ++ (hexadecimal c.pool_base ++ codes " has no more")))

-- why the planner refuses a region, or the pages of an item; the reason of a step is never want of memory
abbrev pub plan_detail : Config → PlanFault → List ℕ
plan_detail c plan.OutsideProtected = codes "ends above " ++ (hexadecimal (protected_end c.s2sz) ++ codes ", the end of the protected half")
plan_detail c plan.Unaligned = codes "is not of whole pages"
plan_detail c plan.RipasTwice = codes "has a page that is RAM already"
plan_detail c plan.NotRam = codes "has a page that is not RAM yet"
plan_detail c plan.DataTwice = codes "has a page that has data already"
plan_detail c plan.TooManyEntries = codes "gives the launch more than " ++ (decimal ENTRY_LIMIT ++ codes " entries")
plan_detail c plan.NoMemory = codes "takes more memory than there is"

-- a step as a manifest spells it
abbrev pub step_text : (ℕ → List ℕ) → Step → List ℕ
step_text names (step.Ram n) = codes "step \"" ++ (step_front about.Ram ++ (decimal n ++ codes "\": "))
step_text names (step.Item n) = codes "step \"" ++ (step_front about.Item ++ (names n ++ codes "\": "))
step_text names (step.Rec n) = codes "step \"" ++ (step_front about.Rec ++ (decimal n ++ codes "\": "))

abbrev pub step_detail : Config → StepReason → List ℕ
step_detail c (why.Plan fault range) = range_text range.base range.end ++ (codes " " ++ plan_detail c fault)
step_detail c why.PoolEnd = pool_text c
step_detail c (why.RecOrder listed) = decimal listed ++ codes " RECs are listed before it"
step_detail c why.RecNotRunnable = codes "runnable is false; write rim_manifest = 2 and, in the launch, rec_rule = \"runnable\""

-- why a launch has no list
abbrev pub list_detail : (ℕ → List ℕ) → Config → ListReason → List ℕ
list_detail names c (list.TooManyRecs count) = decimal count ++ codes " RECs"
list_detail names c list.Opening = codes "the start tables and the realm descriptor: " ++ pool_text c
list_detail names c (list.Step number s reason) = step_text names s ++ step_detail c reason

-- ---- a launch

abbrev pub reason_detail : (ℕ → List ℕ) → Config → LaunchReason → List ℕ
reason_detail names c (launch.Layout reason) = layout_detail names reason
reason_detail names c (launch.List placed reason granules) = list_detail names c reason

-- what is expected, where that is said
abbrev pub reason_expected : LaunchReason → List ℕ
reason_expected (launch.Layout (layout.Item n why)) = item_expected why
reason_expected (launch.Layout (layout.InitrdWindow kernel initrd)) = codes "within 32 GiB"
reason_expected (launch.List placed (list.TooManyRecs count) granules) = codes "at most " ++ decimal REC_LIMIT
reason_expected _ = []

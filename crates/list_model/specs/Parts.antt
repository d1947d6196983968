-- What the entries of a step measure, part by part. DEN0137, "Realm Initial Measurement"; that RAM is set by largest
-- blocks, and each block measured once, is this project's choice.
use Rattle.std.specs.Prelude.{◌≡◌, ℕ, ◌+◌, ◌*◌, false, List, [], map, Option, Some, None, option_map}
use Rattle.std.specs.List.{range_with_len}
use Rattle.rim_desc.specs.Part.{Part, Ripas, Data}
use Rattle.rim_desc.specs.declared.measurement.Algo.{Algo}
use Rattle.rim_desc.specs.declared.measurement.Measurement.{Measurement}
use Rattle.rmm_model.specs.Blocks.{size}
use Rattle.rmm_model.specs.Checks.{is_bad_content}
use Rattle.rtt_plan.specs.Entries.{block_level, entries}
use Rattle.list_model.specs.Entries.{Contents}
use Rattle.list_model.specs.declared.content.PageContent.{PageContent}
use Rattle.list_model.specs.declared.content.PageContent.TheVariants.{Measured, Unknown}
use Rattle.rim_desc.specs.declared.page.TheConstants.{PAGE_SIZE}

-- the parts of a region of RAM: one for each of its largest blocks
abbrev pub block_parts : ℕ → ℕ → ℕ → List Part
block_parts base end least_level = map (λ x. Ripas x (x + size (block_level base end least_level x))) (entries base end least_level)

-- the content of a page that is measured with it, if it is: the measurement of its bytes
abbrev pub content_of : PageContent → Contents → ℕ → ℕ → Option Measurement
content_of Measured contents item page = Some (contents item page)
content_of _ contents item page = None

abbrev pub page_part : PageContent → Contents → ℕ → ℕ → ℕ → Part
page_part content contents item x page = Data x (option_map (λ m. m.bytes) (content_of content contents item page))

-- the parts of an item: one for each of its pages, which begin at an address; none where the content is not known
abbrev pub page_parts : PageContent → Contents → ℕ → ℕ → ℕ → List Part
page_parts Unknown contents item base count = []
page_parts content contents item base count = map (λ page. page_part content contents item (base + PAGE_SIZE * page) page) (range_with_len 0 count)

-- contents that are digests of an algorithm: none has a byte past the digest that is not zero
abbrev pub AreContents : Algo → Contents → Type 0
AreContents algo contents = (item page : ℕ) → is_bad_content algo (Some (contents item page)) ≡ false

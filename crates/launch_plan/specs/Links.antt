-- What is measured of a launch, with keys in the places of its pages' digests. DEN0137, "Realm Initial Measurement";
-- that neighbouring parts are kept together is this project's choice.
use Rattle.std.specs.Prelude.{◌≡◌, ℕ, ◌+◌, List, [], ◌∷◌, ◌++◌, map, take, drop, Some, None}
use Rattle.std.specs.List.{flat_map, range_with_len}
use Rattle.rim_desc.specs.Part.{Part, Realm, Data, Rec, rim_of}
use Rattle.rim_desc.specs.Realm.{realm_page_of}
use Rattle.rim_desc.specs.declared.measurement.Measurement.{Measurement}
use Rattle.rim_desc.specs.declared.realm.RealmParams.{RealmParams}
use Rattle.rmm_model.specs.Blocks.{granules, stretches}
use Rattle.rmm_model.specs.Effects.{ripas_parts}
use Rattle.page_jobs.specs.declared.page.PageKey.{PageKey}
use Rattle.launch_plan.specs.declared.link.Link.{Link}
use Rattle.launch_plan.specs.declared.link.Link.TheVariants as link
use Rattle.rim_desc.specs.declared.page.TheConstants.{PAGE_SIZE}

-- a launch's realm, and what is measured after it, in order
pub record PlanView : Type 0 where
  pub params : RealmParams
  pub links : List Link

-- the key of the page n pages after another in the same item
abbrev pub key_after : PageKey → ℕ → PageKey
key_after key n = record key { number = key.number + n }

-- the keys of a link's pages, in order; just measured pages have keys
abbrev pub keys_in : Link → List PageKey
keys_in (link.Blocks base size count) = []
keys_in (link.Pages ipa key count) = map (key_after key) (range_with_len 0 count)
keys_in (link.Unmeasured ipa count) = []
keys_in (link.Rec content) = []

-- the keys of all measured pages, in order
abbrev pub keys_of : List Link → List PageKey
keys_of links = flat_map keys_in links

-- how many digests a link takes: one for each key
abbrev pub page_count : Link → ℕ
page_count (link.Blocks base size count) = 0
page_count (link.Pages ipa key count) = count
page_count (link.Unmeasured ipa count) = 0
page_count (link.Rec content) = 0

-- pages from an IPA on, with their digests
unfoldable pub pages_with : ℕ → List Measurement → List Part
pages_with ipa [] = []
pages_with ipa (digest ∷ digests) = Data ipa (Some digest.bytes) ∷ pages_with (ipa + PAGE_SIZE) digests

-- the parts of a link, with the digests of its pages. Who chains a plan has a digest for each of its pages, so there are as
-- many here as the link has, and their number in it is not looked at again
abbrev pub link_parts : Link → List Measurement → List Part
link_parts (link.Blocks base size count) digests = ripas_parts (stretches count size base)
link_parts (link.Pages ipa key count) digests = pages_with ipa digests
link_parts (link.Unmeasured ipa count) digests = map (λ x. Data x None) (granules count ipa)
link_parts (link.Rec content) digests = Rec content.bytes ∷ []

-- the parts of links, each with its own digests, which are the next ones
unfoldable pub parts_with : List Link → List Measurement → List Part
parts_with [] digests = []
parts_with (link ∷ links) digests =
    link_parts link (take (page_count link) digests) ++ parts_with links (drop (page_count link) digests)

-- the parts of a plan, with the digests of all its pages
abbrev pub parts_of : PlanView → List Measurement → List Part
parts_of p digests = Realm (realm_page_of p.params) ∷ parts_with p.links digests

-- the Realm Initial Measurement that a plan and the digests of its pages make
unfoldable pub chain_of : PlanView → List Measurement → List ℕ
chain_of p digests = rim_of p.params.algo (parts_of p digests)

-- a link without parts
abbrev pub IsEmpty : Link → Type 0
IsEmpty link = (page_count link ≡ 0) × (link_parts link [] ≡ [])

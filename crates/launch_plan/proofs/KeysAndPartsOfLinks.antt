-- The links of a launch's steps have the launch's keys and parts.
use Rattle.std.proofs.Common.{inl, inr, ◌⊎◌, ◌≡◌, ℕ, zero, suc, ◌+◌, ◌-◌, ◌*◌, ◌/◌, ◌≤◌, ◌∙◌, sym, refl, ap, arith, Bool, true, false, eqb, List, [], ◌∷◌, ◌++◌, length, map}
use Rattle.std.specs.Prelude.{Option, Some, None, if◌then◌else◌}
use Rattle.std.specs.List.{All, flat_map, range_with_len, slice_get}
use Rattle.std.proofs.lemmas.Bool.{cases_Bool, eqb-true}
use Rattle.std.proofs.lemmas.List.{append-nil, drop_at, length-map, map-append, take_at}
use Rattle.std.proofs.lemmas.List.Concat.{flat_map-append}
use Rattle.std.proofs.lemmas.List.Elements.{All-head, All-tail}
use Rattle.rim_desc.specs.Part.{Part, Data, Realm, Rec}
use Rattle.rim_desc.specs.Realm.{realm_page_of}
use Rattle.rim_desc.specs.Rec.{rec_page_of}
use Rattle.rim_desc.specs.declared.measurement.Algo.{Algo}
use Rattle.rim_desc.specs.declared.measurement.Measurement.{Measurement}
use Rattle.rmm_model.specs.Blocks.{size, stretches}
use Rattle.rmm_model.specs.Effects.{is_runnable, ripas_parts}
use Rattle.rmm_model.proofs.GranulesInARow.{granules-map}
use Rattle.rtt_plan.specs.Entries.{entries}
use Rattle.rtt_plan.specs.Following.{block_of, blocks_of}
use Rattle.rtt_plan.specs.Runs.{runs_of}
use Rattle.rtt_plan.specs.declared.run.Run.{Run}
use Rattle.rtt_plan.proofs.RunsCoverRegion.{region-blocks}
use Rattle.page_jobs.specs.declared.page.PageKey.{PageKey}
use Rattle.list_model.specs.declared.content.PageContent.{PageContent}
use Rattle.list_model.specs.declared.content.PageContent.TheVariants.{Measured, Unmeasured, Unknown}
use Rattle.rim_desc.specs.declared.source.Source.{Source}
use Rattle.list_model.specs.Entries.{Contents}
use Rattle.list_model.specs.Parts.{block_parts, page_parts}
use Rattle.rim_launch.specs.LaunchData.{LaunchData}
use Rattle.rim_launch.specs.Realm.{realm_params}
use Rattle.rim_launch.specs.declared.item.Region.{Region}
use Rattle.rim_launch.specs.declared.step.Step.{Step}
use Rattle.rim_launch.specs.declared.step.Step.TheVariants as step
use Rattle.ipa_layout.specs.Layout.{PlacedData}
use Rattle.ipa_layout.specs.declared.placed.PlacedItem.{PlacedItem}
use Rattle.ipa_layout.specs.declared.rec.PlacedRec.{PlacedRec}
use Rattle.rmi_list.specs.Measured.{least_level, of_named, known_of, page_base, page_content, rec_parts_of, step_parts}
use Rattle.rim_desc.specs.Rule.{extends}
use Rattle.launch_plan.specs.declared.link.Link.TheVariants as link
use Rattle.launch_plan.specs.Links.{key_after, keys_in, keys_of, link_parts, page_count, pages_with, parts_with}
use Rattle.launch_plan.specs.Keys.{item_keys, key_at, source_keys, step_keys}
use Rattle.launch_plan.specs.Reading.{GoByKeys, IsReadOf}
use Rattle.launch_plan.specs.declared.link.Link.{Link}
use Rattle.launch_plan.specs.inside.Steps.{IsReadable, IsReadableRegion, item_links, rec_links, region_links, run_link, source_links, step_links}
use Rattle.launch_plan.proofs.LinksFit.{runs-keyless}
use Rattle.launch_plan.proofs.KeysByPlace.{length-keys_in}

-- ---- lists of lists

flat-flat : {X A B : Type 0} (g : A → List B) (h : X → List A) (xs : List X) → flat_map g (flat_map h xs) ≡ flat_map (λ x. flat_map g (h x)) xs
flat-flat g h [] = refl
flat-flat g h (x ∷ xs) = flat_map-append g (h x) (flat_map h xs) ∙ ap (λ bs. flat_map g (h x) ++ bs) (flat-flat g h xs)

flat-same : {X A : Type 0} (P : X → Type 0) (f g : X → List A) (xs : List X) → ((x : X) → P x → f x ≡ g x) → All P xs → flat_map f xs ≡ flat_map g xs
flat-same P f g [] same all = refl
flat-same P f g (x ∷ xs) same all = rw (same x (All-head P x xs all), flat-same P f g xs same (All-tail P x xs all)) refl

map-map : {A B C : Type 0} (g : B → C) (f : A → B) (xs : List A) → map g (map f xs) ≡ map (λ x. g (f x)) xs
map-map g f [] = refl
map-map g f (x ∷ xs) = ap (λ ys. g (f x) ∷ ys) (map-map g f xs)

map-same : {A B : Type 0} (f g : A → B) (xs : List A) → ((x : A) → f x ≡ g x) → map f xs ≡ map g xs
map-same f g [] same = refl
map-same f g (x ∷ xs) same = rw (same x, map-same f g xs same) refl

-- ---- each link has its own digests

-- the parts of a link, with the digests that belong to its keys
abbrev own_parts : (PageKey → Measurement) → Link → List Part
own_parts digest l = link_parts l (map digest (keys_in l))

parts-own : (digest : PageKey → Measurement) (links : List Link) → parts_with links (map digest (keys_of links)) ≡ flat_map (own_parts digest) links
unfolding parts_with
parts-own digest [] = refl
parts-own digest (l ∷ links) =
    let own : List Measurement = map digest (keys_in l) in
    let others : List Measurement = map digest (keys_of links) in
    let split : map digest (keys_in l ++ keys_of links) ≡ own ++ others = map-append digest (keys_in l) (keys_of links) in
    let count : length own ≡ page_count l = length-map (keys_in l) digest ∙ length-keys_in l in
    rw (split, take_at own others (page_count l) count, drop_at own others (page_count l) count)
    (ap (λ ps. link_parts l own ++ ps) (parts-own digest links))

-- ---- regions

runs-parts : (digest : PageKey → Measurement) (rs : List Run) → flat_map (own_parts digest) (map run_link rs) ≡ ripas_parts (blocks_of rs)
unfolding blocks_of
runs-parts digest [] = refl
runs-parts digest (r ∷ rs) =
    let blocks : List (ℕ × ℕ) = stretches ((r.top - r.base) / size r.level) (size r.level) r.base in
    ap (λ ps. ripas_parts blocks ++ ps) (runs-parts digest rs) ∙ sym (map-append _ blocks (blocks_of rs))

region-parts : (digest : PageKey → Measurement) (least : ℕ) (r : Region) → least ≤ 3 → IsReadableRegion (Some r)
    → flat_map (own_parts digest) (region_links least (Some r)) ≡ block_parts r.base r.end least
region-parts digest least r low readable =
    runs-parts digest (runs_of r.base r.end least)
    ∙ (ap ripas_parts (region-blocks r.base r.end least readable.0 low r.ordered) ∙ map-map _ (block_of r.base r.end least) (entries r.base r.end least))

-- ---- items

key-is : (algo : Algo) (source : Source) (item : PlacedItem) (page : ℕ) → key_after (key_at algo source item 0) page ≡ key_at algo source item page
key-is algo source item page = let e : 0 + page ≡ page = omega arith in rw e refl

pages-parts : (digest : PageKey → Measurement) (key : PageKey) (base : ℕ) (n i ipa : ℕ) → ipa ≡ base + 4096 * i
    → pages_with ipa (map digest (map (key_after key) (range_with_len i n)))
    ≡ map (λ page. Data (base + 4096 * page) (Some (digest (key_after key page)).bytes)) (range_with_len i n)
unfolding pages_with
pages-parts digest key base zero i ipa place = refl
pages-parts digest key base (suc n) i ipa place =
    let next : ipa + 4096 ≡ base + 4096 * (i + 1) = omega arith in
    let rest = pages-parts digest key base n (i + 1) (ipa + 4096) next in
    ap (λ x. Data x (Some (digest (key_after key i)).bytes) ∷ pages_with (ipa + 4096) (map digest (map (key_after key) (range_with_len (i + 1) n)))) place
    ∙ ap (λ ps. Data (base + 4096 * i) (Some (digest (key_after key i)).bytes) ∷ ps) rest

-- ---- the keys of steps

step-keys : (l : LaunchData) (p : PlacedData) (st : Step) → keys_of (step_links l p st) ≡ step_keys l p st
step-keys l p (step.Ram n) = by_region (slice_get l.ram n)
  where
    by_region : (o : Option Region) → keys_of (region_links (least_level l.config) o) ≡ []
    by_region None = refl
    by_region (Some r) = runs-keyless (runs_of r.base r.end (least_level l.config))
step-keys l p (step.Item n) = by_item (slice_get p.items n)
  where
    named : (algo : Algo) (source : Source) (item : PlacedItem)
        → map (key_after (key_at algo source item 0)) (range_with_len 0 item.pages) ++ [] ≡ map (key_at algo source item) (range_with_len 0 item.pages)
    named algo source item = append-nil _ ∙ map-same (key_after (key_at algo source item 0)) (key_at algo source item) (range_with_len 0 item.pages) (key-is algo source item)

    by_source : (algo : Algo) (item : PlacedItem) (s : Option Source) (b : Bool) → item.measured ≡ b → keys_of (source_links algo item s) ≡ source_keys algo item s
    by_source algo item None b e = refl
    by_source algo item (Some source) true e = rw e (named algo source item)
    by_source algo item (Some source) false e = rw e refl

    none : (algo : Algo) (item : PlacedItem) (s : Option Source) (b : Bool) → item.measured ≡ b → item.pages ≡ 0 → [] ≡ source_keys algo item s
    none algo item None b e zero_pages = refl
    none algo item (Some source) true e zero_pages = rw (e, zero_pages) refl
    none algo item (Some source) false e zero_pages = rw e refl

    by_pages : (algo : Algo) (item : PlacedItem) → (eqb item.pages 0 ≡ true) ⊎ (eqb item.pages 0 ≡ false)
        → keys_of (item_links algo (Some item)) ≡ item_keys algo (Some item)
    by_pages algo item (inl no_pages) = rw no_pages (none algo item item.source item.measured refl (eqb-true item.pages 0 no_pages))
    by_pages algo item (inr some) = rw some (by_source algo item item.source item.measured refl)

    by_item : (o : Option PlacedItem) → keys_of (item_links l.config.algo o) ≡ item_keys l.config.algo o
    by_item None = refl
    by_item (Some item) = by_pages l.config.algo item (cases_Bool (eqb item.pages 0))
step-keys l p (step.Rec n) = by_rec (slice_get p.recs n)
  where
    one : (content : Measurement) (b : Bool) → keys_of (if b then link.Rec content ∷ [] else []) ≡ []
    one content true = refl
    one content false = refl

    by_rec : (o : Option PlacedRec) → keys_of (rec_links l.config.rec_rule l.config.algo o) ≡ []
    by_rec None = refl
    by_rec (Some r) = one _ (extends l.config.rec_rule r.runnable)

-- ---- the parts of steps

item-parts : (digest : PageKey → Measurement) (contents : Contents) (algo : Algo) (number : ℕ) (item : PlacedItem)
    → ((page : ℕ) (source : Source) → item.source ≡ Some source → contents number page ≡ digest (key_at algo source item page))
    → flat_map (own_parts digest) (item_links algo (Some item)) ≡ page_parts (page_content item) contents number (page_base item) item.pages
item-parts digest contents algo number item same = by_pages (cases_Bool (eqb item.pages 0))
  where
    by_source : (s : Option Source) (b : Bool) → item.source ≡ s → item.measured ≡ b
        → flat_map (own_parts digest) (source_links algo item s) ≡ page_parts (known_of s item.measured) contents number (page_base item) item.pages
    by_source None b at e = refl
    by_source (Some source) true at e = rw e (append-nil _ ∙
        (pages-parts digest (key_at algo source item 0) (page_base item) item.pages 0 (page_base item) (omega arith)
        ∙ map-same _ _ (range_with_len 0 item.pages)
        (λ page. ap (λ (m : Measurement). Data (page_base item + 4096 * page) (Some m.bytes)) (ap digest (key-is algo source item page) ∙ sym (same page source at)))))
    by_source (Some source) false at e =
        rw e (append-nil _ ∙ (ap (map (λ x. Data x None)) (granules-map item.pages (page_base item)) ∙ map-map _ _ (range_with_len 0 item.pages)))

    no_parts : (content : PageContent) → [] ≡ page_parts content contents number (page_base item) 0
    no_parts Measured = refl
    no_parts Unmeasured = refl
    no_parts Unknown = refl

    by_pages : (eqb item.pages 0 ≡ true) ⊎ (eqb item.pages 0 ≡ false)
        → flat_map (own_parts digest) (item_links algo (Some item)) ≡ page_parts (page_content item) contents number (page_base item) item.pages
    by_pages (inl none) = let zero_pages : item.pages ≡ 0 = eqb-true item.pages 0 none in rw (none, zero_pages) (no_parts (page_content item))
    by_pages (inr some) = rw some (by_source item.source item.measured refl refl)

step-parts : (l : LaunchData) (p : PlacedData) (digest : PageKey → Measurement) (contents : Contents) → least_level l.config ≤ 3 → GoByKeys l p digest contents
    → (st : Step) → IsReadable l st → flat_map (own_parts digest) (step_links l p st) ≡ step_parts l p contents st
unfolding rec_page_of
step-parts l p digest contents low by_keys (step.Ram n) readable = by_region (slice_get l.ram n) readable
  where
    by_region : (o : Option Region) → IsReadableRegion o → flat_map (own_parts digest) (region_links (least_level l.config) o)
        ≡ of_named (λ r. block_parts r.base r.end (least_level l.config)) o
    by_region None is_readable = refl
    by_region (Some r) is_readable = region-parts digest (least_level l.config) r low is_readable
step-parts l p digest contents low by_keys (step.Item n) readable = by_item (slice_get p.items n) refl
  where
    by_item : (o : Option PlacedItem) → slice_get p.items n ≡ o → flat_map (own_parts digest) (item_links l.config.algo o)
        ≡ of_named (λ i. page_parts (page_content i) contents n (page_base i) i.pages) o
    by_item None e = refl
    by_item (Some item) e = item-parts digest contents l.config.algo n item (λ page source at. by_keys n page item source e at)
step-parts l p digest contents low by_keys (step.Rec n) readable = by_rec (slice_get p.recs n)
  where
    -- bit 0 of a REC's flags says whether it is runnable
    flag : (b : Bool) → is_runnable (if b then 1 else 0) ≡ b
    flag true = refl
    flag false = refl

    one : (content : Measurement) (b : Bool) → flat_map (own_parts digest) (if b then link.Rec content ∷ [] else []) ≡ (if b then Rec content.bytes ∷ [] else [])
    one content true = refl
    one content false = refl

    by_rec : (o : Option PlacedRec) → flat_map (own_parts digest) (rec_links l.config.rec_rule l.config.algo o) ≡ of_named (rec_parts_of l.config n) o
    by_rec None = refl
    by_rec (Some r) = rw (flag r.runnable) (one _ (extends l.config.rec_rule r.runnable))

-- ---- the whole launch

pub read-of : (l : LaunchData) (p : PlacedData) → least_level l.config ≤ 3 → All (IsReadable l) l.steps
    → IsReadOf l p (record { params = realm_params l.config; links = flat_map (step_links l p) l.steps })
read-of l p low readable = record {
  params = refl;
  keys = flat-flat keys_in (step_links l p) l.steps ∙ flat-same (IsReadable l) _ _ l.steps (λ st _. step-keys l p st) readable;
  parts = λ digest contents by_keys. ap (λ ps. Realm (realm_page_of (realm_params l.config)) ∷ ps)
      (parts-own digest (flat_map (step_links l p) l.steps)
      ∙ (flat-flat (own_parts digest) (step_links l p) l.steps ∙ flat-same (IsReadable l) _ _ l.steps (step-parts l p digest contents low by_keys) readable));
}

-- The measured parts of a launch are those of its events.
use Rattle.std.proofs.Common.{◌≡◌, ℕ, ◌+◌, ◌*◌, ◌∙◌, Bool, true, false, List, [], ◌∷◌, ◌++◌, map, refl, sym, ap}
use Rattle.std.specs.List.{flat_map, range_with_len, slice_get}
use Rattle.std.specs.Prelude.{None, Option, Some, option_map, unwrap_or}
use Rattle.std.proofs.lemmas.List.{map-append}
use Rattle.std.proofs.lemmas.Simd.{map-map}
use Rattle.rim_desc.specs.Measurement.{measurement_of}
use Rattle.rim_desc.specs.Part.{Data}
use Rattle.rim_desc.specs.PageBytes.{page_bytes}
use Rattle.rim_desc.specs.Rule.{extends}
use Rattle.rim_desc.specs.declared.measurement.Algo.{Algo}
use Rattle.rim_desc.specs.declared.page.TheConstants.{PAGE_SIZE}
use Rattle.rim_desc.specs.declared.source.Source.{Source}
use Rattle.rmm_model.specs.Blocks.{size}
use Rattle.rmm_model.specs.Effects.{is_runnable}
use Rattle.rtt_plan.specs.Entries.{block_level, entries}
use Rattle.list_model.specs.Entries.{Contents}
use Rattle.list_model.specs.Parts.{block_parts, page_parts}
use Rattle.rim_launch.specs.LaunchData.{LaunchData}
use Rattle.rim_launch.specs.Realm.{realm_params}
use Rattle.rim_launch.specs.declared.config.Config.{Config}
use Rattle.rim_launch.specs.declared.item.Region.{Region}
use Rattle.rim_launch.specs.declared.step.Step.{Step}
use Rattle.rim_launch.specs.declared.step.Step.TheVariants as step
use Rattle.ipa_layout.specs.Layout.{PlacedData, bytes_of_source}
use Rattle.ipa_layout.specs.declared.placed.PlacedItem.{PlacedItem}
use Rattle.ipa_layout.specs.declared.rec.PlacedRec.{PlacedRec}
use Rattle.rmi_list.specs.Measured.{item_page_digest, known_of, least_level, measured, of_named, page_base}
use Rattle.rmi_list.specs.Measured.{page_content, page_contents, rec_parts_of, source_page_digest, step_parts}
use Rattle.rmi_list.specs.RecParams.{rec_params}
use Rattle.rim_binding.specs.Event.{BecameRam, PageAdded, part_of}
use Rattle.rim_binding.proofs.EventsFromParts.{created-realm, created-rec}
use Rattle.rim_binding.specs.LaunchEvents.{item_events, item_page, launch_events, page_events, rec_events, region_events, step_events}

-- a map over pieces
map-pieces : {A B X : Type 0} (f : A → B) (g : X → List A) (h : X → List B) → ((x : X) → h x ≡ map f (g x)) → (xs : List X)
    → flat_map h xs ≡ map f (flat_map g xs)
map-pieces f g h each [] = refl
map-pieces f g h each (x ∷ xs) =
    (λ i. each x i ++ map-pieces f g h each xs i) ∙ sym (map-append f (g x) (flat_map g xs))

map-same : {A B : Type 0} (f g : A → B) → ((x : A) → f x ≡ g x) → (xs : List A) → map f xs ≡ map g xs
map-same f g each [] = refl
map-same f g each (x ∷ xs) = (λ i. each x i ∷ map-same f g each xs i)

-- ---- the steps

region-parts : (algo : Algo) (c : Config) (o : Option Region)
    → of_named (λ r. block_parts r.base r.end (least_level c)) o ≡ map (part_of algo) (unwrap_or (option_map (region_events c) o) [])
region-parts algo c None = refl
region-parts algo c (Some r) =
    sym (map-map (part_of algo) (λ (x : ℕ). BecameRam x (x + size (block_level r.base r.end (least_level c) x))) (entries r.base r.end (least_level c)))

pages-parts : (algo : Algo) (files : List (List ℕ)) (p : PlacedData) (contents : Contents) (n base lead count : ℕ) (source : Option Source) (is_measured : Bool)
    → ((k : ℕ) → (contents n k).bytes ≡ source_page_digest algo files p lead source k)
    → page_parts (known_of source is_measured) contents n base count
    ≡ map (part_of algo) (page_events (known_of source is_measured) (λ k. base + PAGE_SIZE * k) (item_page files p lead source) count)
pages-parts algo files p contents n base lead count None is_measured digests = refl
pages-parts algo files p contents n base lead count (Some source) true digests =
    map-same (λ (k : ℕ). Data (base + PAGE_SIZE * k) (Some (contents n k).bytes))
    (λ (k : ℕ). Data (base + PAGE_SIZE * k) (Some (measurement_of algo (page_bytes lead (bytes_of_source files p source) k))))
    (λ k. ap (λ (m : List ℕ). Data (base + PAGE_SIZE * k) (Some m)) (digests k)) (range_with_len 0 count)
    ∙ sym (map-map (part_of algo) (λ (k : ℕ). PageAdded (base + PAGE_SIZE * k) (Some (page_bytes lead (bytes_of_source files p source) k)))
    (range_with_len 0 count))
pages-parts algo files p contents n base lead count (Some source) false digests =
    sym (map-map (part_of algo) (λ (k : ℕ). PageAdded (base + PAGE_SIZE * k) None) (range_with_len 0 count))

item-parts : (algo : Algo) (files : List (List ℕ)) (p : PlacedData) (contents : Contents) (n : ℕ) (o : Option PlacedItem)
    → ((k : ℕ) → (contents n k).bytes ≡ item_page_digest algo files p o k)
    → of_named (λ i. page_parts (page_content i) contents n (page_base i) i.pages) o ≡ map (part_of algo) (unwrap_or (option_map (item_events files p) o) [])
item-parts algo files p contents n None digests = refl
item-parts algo files p contents n (Some i) digests = pages-parts algo files p contents n (page_base i) i.lead i.pages i.source i.measured digests

recs-parts : (c : Config) (n : ℕ) (o : Option PlacedRec)
    → of_named (rec_parts_of c n) o ≡ map (part_of c.algo) (unwrap_or (option_map (rec_events c n) o) [])
recs-parts c n None = refl
recs-parts c n (Some r) = created-rec (extends c.rec_rule (is_runnable (rec_params n r []).flags)) c.algo (rec_params n r [])

one-step : (files : List (List ℕ)) (l : LaunchData) (p : PlacedData) (s : Step)
    → step_parts l p (page_contents l files p) s ≡ map (part_of l.config.algo) (step_events files l p s)
one-step files l p (step.Ram n) = region-parts l.config.algo l.config (slice_get l.ram n)
one-step files l p (step.Item n) = item-parts l.config.algo files p (page_contents l files p) n (slice_get p.items n) (λ k. refl)
one-step files l p (step.Rec n) = recs-parts l.config n (slice_get p.recs n)

-- ---- the launch

pub launch-parts : (files : List (List ℕ)) (l : LaunchData) (p : PlacedData)
    → measured l p (page_contents l files p) ≡ map (part_of l.config.algo) (launch_events files l p)
launch-parts files l p =
    let steps : flat_map (step_parts l p (page_contents l files p)) l.steps ≡ map (part_of l.config.algo) (flat_map (step_events files l p) l.steps) =
    map-pieces (part_of l.config.algo) (step_events files l p) (step_parts l p (page_contents l files p)) (one-step files l p) l.steps in
    (λ i. created-realm (realm_params l.config) i ∷ steps i)

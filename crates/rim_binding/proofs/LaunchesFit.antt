-- The events of a launch have the widths of their places: its types say so, and its commands are accepted.
use Rattle.std.proofs.Common.{◌≡◌, ℕ, ◌+◌, ◌-◌, ◌*◌, ◌≤◌, inl, inr, Bool, true, false, cond, List, [], ◌∷◌, length, map, get_or, refl, sym, subst, arith}
use Rattle.std.specs.List.{All, AllByRecursion, flat_map, range_with_len, slice_get}
use Rattle.std.specs.Prelude.{None, Option, Some, if◌then◌else◌, nat_lt, option_map, unwrap_or, ◌==◌}
use Rattle.std.proofs.lemmas.Bool.{cases_Bool, cases_lt}
use Rattle.std.proofs.lemmas.Bool.Decides.{nat_tests}
use Rattle.std.proofs.lemmas.List.{get_or_past}
use Rattle.std.proofs.lemmas.List.Elements.{All-map, All-nil}
use Rattle.std.proofs.lemmas.Option.{get_or_from_slice_get, slice_get_within}
use Rattle.rim_desc.specs.Numbers.{in_order}
use Rattle.rim_desc.specs.PageBytes.{page_byte, page_bytes}
use Rattle.rim_desc.specs.Rule.{extends}
use Rattle.rim_desc.specs.declared.page.TheConstants.{PAGE_SIZE}
use Rattle.rim_desc.specs.declared.source.Source.{Source}
use Rattle.rim_desc.specs.declared.source.Source.TheVariants.{Edited, File}
use Rattle.rim_desc.proofs.PageBytesByPlace.{length-page_bytes}
use Rattle.rmm_model.specs.Blocks.{size}
use Rattle.rmm_model.specs.Effects.{is_runnable}
use Rattle.rtt_plan.specs.Entries.{block_level, entries}
use Rattle.rim_launch.specs.LaunchData.{LaunchData}
use Rattle.rim_launch.specs.Realm.{realm_params}
use Rattle.rim_launch.specs.declared.config.Config.{Config}
use Rattle.rim_launch.specs.declared.item.Region.{Region}
use Rattle.rim_launch.specs.declared.step.Step.{Step}
use Rattle.rim_launch.specs.declared.step.Step.TheVariants as step
use Rattle.ipa_layout.specs.Layout.{PlacedData, bytes_of_source}
use Rattle.ipa_layout.specs.declared.placed.PlacedItem.{PlacedItem}
use Rattle.ipa_layout.specs.declared.rec.PlacedRec.{PlacedRec}
use Rattle.rmi_list.specs.Measured.{known_of, least_level, page_base}
use Rattle.rmi_list.specs.RecParams.{rec_params}
use Rattle.rmm_model.specs.Start.{is_width}
use Rattle.rmi_line.specs.Typed.{IsByte, IsWord}
use Rattle.rim_accepted.proofs.PagesOfItems.{each-append}
use Rattle.rim_binding.specs.Chain.{IsPage}
use Rattle.rim_binding.specs.Event.{BecameRam, Event, FitsParams, FitsRec, PageAdded, measured_params, measured_rec}
use Rattle.rim_binding.specs.LaunchEvents.{item_events, item_page, launch_events, page_events, rec_events, region_events, step_events}
use Rattle.rim_binding.specs.Widths.{FitsLaunch, FitsPlacedRec}
use Rattle.rim_binding.proofs.WidthsOfEvents.{FitsInside, HasCreation}

-- an element of bytes is a byte, and so is what is read past them
element-fits : (bytes : List ℕ) (k : ℕ) → All IsByte bytes → IsByte (get_or bytes k 0)
element-fits bytes k fits = elim (cases_lt k (length bytes)) [
  | inl low ↦ fits k 0 low
  | inr high ↦ rw (get_or_past bytes k 0 high) (omega arith)
]

byte-fits : (lead k j : ℕ) (bytes : List ℕ) → All IsByte bytes → IsByte (page_byte lead bytes k j)
byte-fits lead k j bytes fits = elim (cases_Bool (nat_lt (PAGE_SIZE * k + j) lead)) [
  | inl on ↦ rw on (omega arith)
  | inr off ↦ rw off (element-fits bytes (PAGE_SIZE * k + j - lead) fits)
]

page-fits : (lead k : ℕ) (bytes : List ℕ) → All IsByte bytes → IsPage (page_bytes lead bytes k)
unfolding page_bytes
page-fits lead k bytes fits = (
  length-page_bytes lead k bytes,
  All-map IsByte (page_byte lead bytes k) (range_with_len 0 PAGE_SIZE) (λ j d low. byte-fits lead k (get_or (range_with_len 0 PAGE_SIZE) j d) bytes fits),
)

source-fits : (files : List (List ℕ)) (l : LaunchData) (p : PlacedData) → FitsLaunch files l p → (source : Source) → All IsByte (bytes_of_source files p source)
source-fits files l p fits (File n) = elim (cases_lt n (length files)) [
  | inl low ↦ fits.each_file n [] low
  | inr high ↦ subst (All IsByte) (sym (get_or_past files n [] high)) (All-nil IsByte)
]
source-fits files l p fits (Edited launch) = elim (cases_Bool (launch == p.number)) [
  | inl on ↦ rw on fits.edited
  | inr off ↦ rw off (All-nil IsByte)
]

-- ---- steps

each-mapped : {A : Type 0} (f : A → Event) → ((x : A) → FitsInside (f x)) → (xs : List A) → AllByRecursion FitsInside (map f xs)
each-mapped f each [] = tt
each-mapped f each (x ∷ xs) = (each x, each-mapped f each xs)

region-inside : (c : Config) (o : Option Region) → AllByRecursion FitsInside (unwrap_or (option_map (region_events c) o) [])
region-inside c None = tt
region-inside c (Some r) =
    each-mapped (λ (x : ℕ). BecameRam x (x + size (block_level r.base r.end (least_level c) x))) (λ x. tt) (entries r.base r.end (least_level c))

pages-inside : (files : List (List ℕ)) (l : LaunchData) (p : PlacedData) → FitsLaunch files l p
    → (ipa : ℕ → ℕ) (lead count : ℕ) (source : Option Source) (is_measured : Bool)
    → AllByRecursion FitsInside (page_events (known_of source is_measured) ipa (item_page files p lead source) count)
pages-inside files l p fits ipa lead count None is_measured = tt
pages-inside files l p fits ipa lead count (Some source) true =
    each-mapped (λ (k : ℕ). PageAdded (ipa k) (Some (page_bytes lead (bytes_of_source files p source) k)))
    (λ k. page-fits lead k (bytes_of_source files p source) (source-fits files l p fits source)) (range_with_len 0 count)
pages-inside files l p fits ipa lead count (Some source) false = each-mapped (λ (k : ℕ). PageAdded (ipa k) None) (λ k. tt) (range_with_len 0 count)

item-inside : (files : List (List ℕ)) (l : LaunchData) (p : PlacedData) → FitsLaunch files l p → (o : Option PlacedItem)
    → AllByRecursion FitsInside (unwrap_or (option_map (item_events files p) o) [])
item-inside files l p fits None = tt
item-inside files l p fits (Some i) = pages-inside files l p fits (λ (k : ℕ). page_base i + PAGE_SIZE * k) i.lead i.pages i.source i.measured

rec-fits : (n : ℕ) (r : PlacedRec) → FitsPlacedRec r → FitsRec (measured_rec (rec_params n r []))
rec-fits n r fits = record { flags = flag r.runnable; pc = fits.0; x = (fits.1, fits.2) }
  where
    flag : (b : Bool) → IsWord (if b then 1 else 0)
    flag true = omega arith
    flag false = omega arith

rec-inside : (c : Config) (n : ℕ) (recs : List PlacedRec) → All FitsPlacedRec recs
    → (o : Option PlacedRec) → slice_get recs n ≡ o → AllByRecursion FitsInside (unwrap_or (option_map (rec_events c n) o) [])
rec-inside c n recs fits None at = tt
rec-inside c n recs fits (Some r) at =
    let here : FitsPlacedRec r =
    subst FitsPlacedRec (get_or_from_slice_get recs n r r at) (fits n r (slice_get_within recs n r at)) in
    elim (cases_Bool (extends c.rec_rule (is_runnable (rec_params n r []).flags))) [
      | inl on ↦ rw on (rec-fits n r here, tt)
      | inr off ↦ rw off tt
    ]

step-inside : (files : List (List ℕ)) (l : LaunchData) (p : PlacedData) → FitsLaunch files l p → (s : Step)
    → AllByRecursion FitsInside (step_events files l p s)
step-inside files l p fits (step.Ram n) = region-inside l.config (slice_get l.ram n)
step-inside files l p fits (step.Item n) = item-inside files l p fits (slice_get p.items n)
step-inside files l p fits (step.Rec n) = rec-inside l.config n p.recs fits.recs (slice_get p.recs n) refl

steps-inside : (files : List (List ℕ)) (l : LaunchData) (p : PlacedData) → FitsLaunch files l p → (ss : List Step)
    → AllByRecursion FitsInside (flat_map (step_events files l p) ss)
steps-inside files l p fits [] = tt
steps-inside files l p fits (s ∷ ss) =
    each-append FitsInside (step_events files l p s) (flat_map (step_events files l p) ss) (step-inside files l p fits s) (steps-inside files l p fits ss)

-- ---- the launch

flags-fit : (a b : Bool) → IsWord (cond a 2 0 + cond b 4 0)
flags-fit true true = omega arith
flags-fit true false = omega arith
flags-fit false true = omega arith
flags-fit false false = omega arith

params-fit : (c : Config) → All IsByte (in_order c.numbers) → FitsParams (measured_params (realm_params c))
params-fit c numbers =
    let width : is_width c.s2sz ≡ true = c.width in
    let narrow : c.s2sz ≤ 48 = grind (arith, nat_tests) in
    record { flags = flags-fit c.sve c.pmu; s2sz = omega arith; numbers = numbers }

pub launch-creation : (files : List (List ℕ)) (l : LaunchData) (p : PlacedData) → FitsLaunch files l p → HasCreation (launch_events files l p)
launch-creation files l p fits = record {
  params = measured_params (realm_params l.config);
  others = flat_map (step_events files l p) l.steps;
  created = refl;
  params_fit = params-fit l.config fits.numbers;
  inside = steps-inside files l p fits l.steps;
}

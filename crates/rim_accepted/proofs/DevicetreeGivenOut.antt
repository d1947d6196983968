-- The devicetree that is given out is the one that is measured.
use Rattle.std.proofs.Common.{◌≡◌, ℕ, ◌+◌, ◌*◌, Bool, true, false, List, map, Option, Some, None, option_map, refl, ap, ◌∙◌}
use Rattle.std.specs.Prelude.{Result, Ok, Err, option_and_then, if◌then◌else◌}
use Rattle.std.specs.List.{range_with_len, slice_get}
use Rattle.refusal.specs.Answer.{◌>>=◌}
use Rattle.rim_desc.specs.Measurement.{measurement_of}
use Rattle.rim_desc.specs.PageBytes.{page_bytes}
use Rattle.rim_desc.specs.Part.{Part, Data}
use Rattle.rim_launch.specs.LaunchData.{LaunchData}
use Rattle.rim_launch.specs.declared.step.Step.TheVariants as step
use Rattle.rim_desc.specs.declared.source.Source.{Source}
use Rattle.ipa_layout.specs.Layout.{PlacedData, bytes_of_source}
use Rattle.ipa_layout.specs.declared.placed.PlacedItem.{PlacedItem}
use Rattle.list_model.specs.Parts.{page_parts}
use Rattle.rmi_list.specs.Measured.{known_of, page_contents, item_page_digest, of_named, page_base, page_content, source_page_digest, step_parts}
use Rattle.rim_accepted.specs.Accepted.{accepted_of}
use Rattle.rim_accepted.specs.Devicetree.{DevicetreesAreMeasured, IsMeasuredDevicetree, devicetree_in, devicetree_number, devicetree_of, parts_of_bytes}
use Rattle.rim_accepted.specs.declared.audit_fault.AuditFault.{AuditFault}

-- what comes of an answer that is known
of_answer : {X Y : Type 0} (r : Result X AuditFault) (f : X → Y) (x : X) (y : Y) → r ≡ Ok x → (r >>= λ found. Ok (f found)) ≡ Ok y → f x ≡ y
of_answer (Ok found) f x y is e = cc
of_answer (Err fault) f x y is e = cc

-- an item of a launch that is placed so, its source and its bytes
module _ (files : List (List ℕ)) (l : LaunchData) (p : PlacedData) (bytes : List ℕ) (number : ℕ) (item : PlacedItem) (source : Source)
    (placed : slice_get p.items number ≡ Some item) (from : item.source ≡ Some source) (same : bytes_of_source files p source ≡ bytes) where
  pages : List ℕ
  pages = range_with_len 0 item.pages

  part : Option (List ℕ) → ℕ → Part
  part content k = Data (page_base item + 4096 * k) content

  pages_measured : (measured : Bool) → page_parts (known_of (Some source) measured) (page_contents l files p) number (page_base item) item.pages
      ≡ map (λ k. part (if measured then Some (measurement_of l.config.algo (page_bytes item.lead bytes k)) else None) k) pages
  unfolding part pages
  pages_measured false = refl
  pages_measured true =
      ap (λ (o : Option PlacedItem). map (λ k. part (Some (item_page_digest l.config.algo files p o k)) k) pages) placed
      ∙ ap (λ (o : Option Source). map (λ k. part (Some (source_page_digest l.config.algo files p item.lead o k)) k) pages) from
      ∙ ap (λ (held : List ℕ). map (λ k. part (Some (measurement_of l.config.algo (page_bytes item.lead held k))) k) pages) same

  step_measured : step_parts l p (page_contents l files p) (step.Item number) ≡ parts_of_bytes l.config.algo item bytes
  unfolding part pages
  step_measured =
      ap (of_named (λ i. page_parts (page_content i) (page_contents l files p) number (page_base i) i.pages)) placed
      ∙ ap (λ (o : Option Source). page_parts (known_of o item.measured) (page_contents l files p) number (page_base item) item.pages) from
      ∙ pages_measured item.measured

pub devicetrees-are-measured : DevicetreesAreMeasured
unfolding devicetree_of
devicetrees-are-measured files l p bytes accepted given =
    go (devicetree_number l) refl (of_answer (accepted_of l files) (devicetree_in l files) p (Some bytes) accepted given)
  where
    from_source : (number : ℕ) (item : PlacedItem) (o : Option Source) → devicetree_number l ≡ Some number → slice_get p.items number ≡ Some item
        → item.source ≡ o
        → option_map (bytes_of_source files p) o ≡ Some bytes → IsMeasuredDevicetree files l p bytes
    from_source number item None own is from e = cc
    from_source number item (Some source) own is from e = record {
      number = number;
      item = item;
      own = own;
      placed = is;
      parts = step_measured files l p bytes number item source is from (cc);
    }

    at : (number : ℕ) (o : Option PlacedItem) → devicetree_number l ≡ Some number → slice_get p.items number ≡ o
        → option_map (bytes_of_source files p) (option_and_then (λ i. i.source) o) ≡ Some bytes → IsMeasuredDevicetree files l p bytes
    at number None own is e = cc
    at number (Some item) own is e = from_source number item item.source own is refl e

    go : (n : Option ℕ) → devicetree_number l ≡ n
        → option_map (bytes_of_source files p) (option_and_then (λ i. i.source) (option_and_then (slice_get p.items) n)) ≡ Some bytes
        → IsMeasuredDevicetree files l p bytes
    go None own e = cc
    go (Some number) own e = at number (slice_get p.items number) own refl e

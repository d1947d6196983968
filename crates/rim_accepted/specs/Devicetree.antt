-- The devicetree of a launch as it is placed, to be given to what builds the realm. This project's choice.
use Rattle.std.specs.Prelude.{◌≡◌, ℕ, ◌+◌, ◌*◌, List, map, Option, Some, None, option_map, option_and_then, position, Result, Ok, if◌then◌else◌}
use Rattle.std.specs.List.{range_with_len, slice_get}
use Rattle.refusal.specs.Answer.{◌>>=◌}
use Rattle.rim_desc.specs.Measurement.{measurement_of}
use Rattle.rim_desc.specs.PageBytes.{page_bytes}
use Rattle.rim_desc.specs.Part.{Part, Data}
use Rattle.rim_desc.specs.declared.measurement.Algo.{Algo}
use Rattle.rim_launch.specs.Kinds.{has_role}
use Rattle.rim_launch.specs.LaunchData.{LaunchData}
use Rattle.rim_launch.specs.declared.item.Role.TheVariants as role
use Rattle.rim_launch.specs.declared.step.Step.TheVariants as step
use Rattle.ipa_layout.specs.Layout.{PlacedData, bytes_of_source}
use Rattle.ipa_layout.specs.declared.placed.PlacedItem.{PlacedItem}
use Rattle.rmi_list.specs.Measured.{page_contents, page_base, step_parts}
use Rattle.rim_accepted.specs.Accepted.{accepted_of}
use Rattle.rim_accepted.specs.declared.audit_fault.AuditFault.{AuditFault}
use Rattle.rim_desc.specs.declared.page.TheConstants.{PAGE_SIZE}

-- which item of a launch is its devicetree, if it has one
abbrev pub devicetree_number : LaunchData → Option ℕ
devicetree_number l = position (has_role role.Dtb) l.items

-- the bytes that it is placed with: those of its file, or of the edited one
abbrev pub devicetree_in : LaunchData → List (List ℕ) → PlacedData → Option (List ℕ)
devicetree_in l files p =
    option_map (bytes_of_source files p) (option_and_then (λ i. i.source) (option_and_then (slice_get p.items) (devicetree_number l)))

-- the same of a launch that is accepted, or why it is refused
unfoldable pub devicetree_of : LaunchData → List (List ℕ) → Result (Option (List ℕ)) AuditFault
devicetree_of l files = accepted_of l files >>= λ p. Ok (devicetree_in l files p)

-- the measured parts of an item that has these bytes, page by page
abbrev pub parts_of_bytes : Algo → PlacedItem → List ℕ → List Part
parts_of_bytes algo item bytes =
    map (λ k. Data (page_base item + PAGE_SIZE * k) (if item.measured then Some (measurement_of algo (page_bytes item.lead bytes k)) else None)) (range_with_len 0 item.pages)

-- what the step of the devicetree adds to the launch's measured parts is measured of these bytes, where its item is
-- measured; of one that is not, as many pages are added without contents, whatever the bytes are
pub record IsMeasuredDevicetree (files : List (List ℕ)) (l : LaunchData) (p : PlacedData) (bytes : List ℕ) : Type 0 where
  pub number : ℕ
  pub item : PlacedItem
  pub own : devicetree_number l ≡ Some number
  pub placed : slice_get p.items number ≡ Some item
  pub parts : step_parts l p (page_contents l files p) (step.Item number) ≡ parts_of_bytes l.config.algo item bytes

-- each devicetree that is given out is the one that is measured, where its item is
abbrev pub DevicetreesAreMeasured : Type 0
DevicetreesAreMeasured = (files : List (List ℕ)) (l : LaunchData) (p : PlacedData) (bytes : List ℕ) → accepted_of l files ≡ Ok p
    → devicetree_of l files ≡ Ok (Some bytes) → IsMeasuredDevicetree files l p bytes

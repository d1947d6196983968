-- Events have the widths of their places where their parts have addresses of 64 bits, and the rest of them fits.
use Rattle.std.proofs.Common.{◌≡◌, List, [], ◌∷◌, map, subst}
use Rattle.std.specs.List.{AllByRecursion}
use Rattle.rim_desc.specs.declared.measurement.Algo.{Algo}
use Rattle.rim_binding.specs.Event.{BecameRam, Created, Event, FitsParams, FitsRec, MeasuredParams, PageAdded, RecCreated, part_of}
use Rattle.rim_binding.proofs.AddressesFit.{HasAddresses}
use Rattle.rim_binding.proofs.EventsFromParts.{FitsBytes, FitsEvent, IsHistory}

-- what the width of an event asks apart from its addresses
abbrev pub FitsInside : Event → Type 0
FitsInside (Created m) = ⊥
FitsInside (BecameRam base top) = Unit {0}
FitsInside (PageAdded ipa bytes) = FitsBytes bytes
FitsInside (RecCreated m) = FitsRec m

event-fits : (algo : Algo) (event : Event) → HasAddresses (part_of algo event) → FitsInside event → FitsEvent event
event-fits algo (Created m) addresses inside = absurd inside
event-fits algo (BecameRam base top) addresses inside = addresses
event-fits algo (PageAdded ipa bytes) addresses inside = (addresses, inside)
event-fits algo (RecCreated m) addresses inside = inside

events-fit : (algo : Algo) (events : List Event) → AllByRecursion HasAddresses (map (part_of algo) events) → AllByRecursion FitsInside events
    → AllByRecursion FitsEvent events
events-fit algo [] addresses inside = tt
events-fit algo (event ∷ events) addresses inside =
    (event-fits algo event addresses.0 inside.0, events-fit algo events addresses.1 inside.1)

-- a realm's creation, and events that fit apart from their addresses
pub record HasCreation (events : List Event) : Type 0 where
  pub params : MeasuredParams
  pub others : List Event
  pub created : events ≡ Created params ∷ others
  pub params_fit : FitsParams params
  pub inside : AllByRecursion FitsInside others

pub history : (algo : Algo) (events : List Event) → HasCreation events → AllByRecursion HasAddresses (map (part_of algo) events) → IsHistory events
history algo events h addresses =
    let split : AllByRecursion HasAddresses (map (part_of algo) (Created h.params ∷ h.others)) =
    subst (λ (es : List Event). AllByRecursion HasAddresses (map (part_of algo) es)) h.created addresses in
    record { params = h.params; others = h.others; created = h.created; params_fit = h.params_fit; others_fit = events-fit algo h.others split.1 h.inside }

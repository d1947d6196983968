-- What the spans of a list say. This project's choice.
use Rattle.std.specs.Prelude.{◌≡◌, ℕ, ◌+◌, ◌*◌, ◌^◌, ◌≤◌, List, [], ◌∷◌, Option, Some, None, option_and_then, option_map}
use Rattle.std.specs.List.{flat_map, slice_get}
use Rattle.rim_desc.specs.declared.command.Command.{Command}
use Rattle.rim_desc.specs.declared.command.Command.TheVariants.{Delegate, RealmCreate, RttCreate, InitRipas, RecCreate, Activate}
use Rattle.rim_desc.specs.declared.measurement.Measurement.{Measurement}
use Rattle.rim_desc.specs.declared.realm.RealmParams.{RealmParams}
use Rattle.rmm_model.specs.Blocks.{granules}
use Rattle.list_model.specs.Entries.{Entry, Whole, command_of, granule, page_of}
use Rattle.list_model.specs.inside.Acts.{entries_of_pages}
use Rattle.ipa_layout.specs.declared.rec.PlacedRec.{PlacedRec}
use Rattle.rmi_list.specs.RecParams.{rec_params}
use Rattle.rmi_list.specs.declared.span.Span.{Span}
use Rattle.rmi_list.specs.declared.span.Span.TheVariants as span

-- a REC in granule n of the pool; its auxiliary granules come after it. A list names no REC that the launch has not
abbrev pub rec_entry : ℕ → ℕ → ℕ → ℕ → Option PlacedRec → Entry
rec_entry pool num_aux n number None = Whole Activate
rec_entry pool num_aux n number (Some r) =
    Whole (RecCreate (granule pool n) (rec_params number r (granules num_aux (granule pool (n + 1)))))

-- the entries of a span, with what is kept beside the list; the start tables are the pool's first granules
abbrev pub entries_of_span : RealmParams → ℕ → List PlacedRec → Span → List Entry
entries_of_span params num_aux recs (span.Delegate n) = Whole (Delegate (granule params.rtt_base n)) ∷ []
entries_of_span params num_aux recs (span.RealmCreate n) = Whole (RealmCreate (granule params.rtt_base n) params) ∷ []
entries_of_span params num_aux recs (span.RttCreate n ipa level) = Whole (RttCreate (granule params.rtt_base n) ipa level) ∷ []
entries_of_span params num_aux recs (span.InitRipas base top) = Whole (InitRipas base top) ∷ []
entries_of_span params num_aux recs (span.Pages n ipa item known page count) = entries_of_pages params.rtt_base n known item page (granules count ipa)
entries_of_span params num_aux recs (span.RecCreate n number) = rec_entry params.rtt_base num_aux n number (slice_get recs number) ∷ []
entries_of_span params num_aux recs span.Activate = Whole Activate ∷ []

abbrev pub entries_of : RealmParams → ℕ → List PlacedRec → List Span → List Entry
entries_of params num_aux recs span = flat_map (entries_of_span params num_aux recs) span

-- how many commands a span has
abbrev pub commands_in : Span → ℕ
commands_in (span.Delegate n) = 1
commands_in (span.RealmCreate n) = 1
commands_in (span.RttCreate n ipa level) = 1
commands_in (span.InitRipas base top) = 1
commands_in (span.Pages n ipa item known page count) = 2 * count
commands_in (span.RecCreate n number) = 1
commands_in span.Activate = 1

-- the pages of a span have an IPA of 47 bits, and its commands are few enough to be numbered
abbrev pub IsSpan : Span → Type 0
IsSpan (span.Pages n ipa item known page count) = (count ≤ 2 ^ 32) × (ipa ≤ 2 ^ 47) × (page + count ≤ 2 ^ 32)
IsSpan k = Unit {0}

-- the command at an index of some entries, where each measured page has this content
abbrev pub IsCommandAt : Measurement → List Entry → ℕ → Command → Type 0
IsCommandAt content entries index c = option_map (command_of (λ item page. content)) (slice_get entries index) ≡ Some c

-- the item and the page of the command at an index of a span, where it creates a measured page; what is kept beside the list
-- has no part in it
abbrev pub IsPageAt : Span → ℕ → Option (ℕ × ℕ) → Type 0
IsPageAt span index page = (params : RealmParams) (num_aux : ℕ) (recs : List PlacedRec)
    → page ≡ option_and_then page_of (slice_get (entries_of_span params num_aux recs span) index)

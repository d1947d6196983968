-- Spans that are the same in two lists. This project's choice.
use Rattle.std.specs.Prelude.{◌≡◌, ℕ, Bool, List}
use Rattle.rim_desc.specs.declared.realm.RealmParams.{RealmParams}
use Rattle.list_model.specs.Entries.{Contents, commands_of}
use Rattle.ipa_layout.specs.declared.rec.PlacedRec.{PlacedRec}
use Rattle.rmi_list.specs.Common.{AgreeOn}
use Rattle.rmi_list.specs.declared.span.Span.{Span}
use Rattle.rmi_list.specs.inside.Spans.{entries_of, entries_of_span}

-- a span of each list has the same commands, where contents agree on marked items
abbrev pub IsCommon : List Bool → List PlacedRec → Span → List PlacedRec → Span → Type 0
IsCommon marks recs a others b = (params : RealmParams) (num_aux : ℕ) (f g : Contents) → AgreeOn marks f g
    → commands_of f (entries_of_span params num_aux recs a) ≡ commands_of g (entries_of_span params num_aux others b)

-- and so have some spans of each
abbrev pub AreCommon : List Bool → List PlacedRec → List Span → List PlacedRec → List Span → Type 0
AreCommon marks recs ks others ls = (params : RealmParams) (num_aux : ℕ) (f g : Contents) → AgreeOn marks f g
    → commands_of f (entries_of params num_aux recs ks) ≡ commands_of g (entries_of params num_aux others ls)

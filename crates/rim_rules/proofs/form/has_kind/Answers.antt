use Rattle.std.proofs.Common.{inl, inr, rules}
use Rattle.toml.proofs.Views.{view-Array}
use Rattle.rim_rules.proofs.ListsOfValues.{all_items}
use Rattle.rim_rules.proofs.form.has_kind.Goals as goal

pub returns-in-Array : goal.returns-in-Array
returns-in-Array c = rw (c.in-Tables.is, c.in-Array.is, view-Array, all_items, ← c.as_slice.ensures.value) c.are_tables.ensures

pub returns-in-Version : goal.returns-in-Version
returns-in-Version c = elim c.in-Version.is [
  | inl version ↦ rw version (search rules)
  | inr other ↦ elim other [ inl number ↦ rw number.2 (search rules) | inr base ↦ rw base (search rules) ]
]

pub returns-in-Array-value : goal.returns-in-Array-value
returns-in-Array-value c =
    rw (c.in-Regions.is, c.in-Array-value.is, view-Array, all_items, ← c.as_slice-in-Array-value.ensures.value) c.are_pairs.ensures

pub returns-in-Array-value-2 : goal.returns-in-Array-value-2
returns-in-Array-value-2 c =
    rw (c.in-Words.is, c.in-Array-value-2.is, view-Array, all_items, ← c.as_slice-in-Array-value-2.ensures.value) c.are_word_kinds.ensures

pub returns-in-Array-value-3 : goal.returns-in-Array-value-3
returns-in-Array-value-3 c =
    rw (c.in-Texts.is, c.in-Array-value-3.is, view-Array, all_items, ← c.as_slice-in-Array-value-3.ensures.value) c.are_texts.ensures

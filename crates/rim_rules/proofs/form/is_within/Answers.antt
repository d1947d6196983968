use Rattle.std.proofs.Common.{rules}
use Rattle.toml.proofs.Views.{view-Array, view-Integer, view-String}
use Rattle.rim_rules.proofs.ListsOfValues.{all_items}
use Rattle.rim_rules.proofs.form.is_within.Goals as goal

pub returns-then-len-count : goal.returns-then-len-count
returns-then-len-count c = rw (c.in-Digits-String.is-0, c.in-Digits-String.is-1, view-String) (search rules)

pub returns-then-low-x : goal.returns-then-low-x
returns-then-low-x c = rw (c.in-Number-Integer.is-0, c.in-Number-Integer.is-1, view-Integer) (search rules)

pub returns-else-low-x : goal.returns-else-low-x
returns-else-low-x c = rw (c.in-Number-Integer.is-0, c.in-Number-Integer.is-1, view-Integer) (search rules)

pub returns-in-Regions-Array : goal.returns-in-Regions-Array
returns-in-Regions-Array c =
    rw (c.in-Regions-Array.is-0, c.in-Regions-Array.is-1, view-Array, all_items, ← c.as_slice.ensures.value) c.are_ranges.ensures

pub returns-in-Words-Array : goal.returns-in-Words-Array
returns-in-Words-Array c =
    rw (c.in-Words-Array.is-0, c.in-Words-Array.is-1, view-Array, all_items, ← c.as_slice-in-Words-Array.ensures.value) c.are_words.ensures

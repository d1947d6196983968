use Rattle.toml.proofs.Views.{view-Array}
use Rattle.rim_rules.proofs.ListsOfValues.{length-items_list}
use Rattle.rim_rules.proofs.form.is_over.Goals as goal

pub returns-in-Tables-Array : goal.returns-in-Tables-Array
returns-in-Tables-Array c =
    rw (c.in-Tables-Array.is-0, c.in-Tables-Array.is-1, view-Array, length-items_list, c.as_slice.ensures.value)

pub returns-in-Regions-Array : goal.returns-in-Regions-Array
returns-in-Regions-Array c =
    rw (c.in-Regions-Array.is-0, c.in-Regions-Array.is-1, view-Array, length-items_list, c.as_slice-in-Regions-Array.ensures.value)

pub returns-in-Words-Array : goal.returns-in-Words-Array
returns-in-Words-Array c =
    rw (c.in-Words-Array.is-0, c.in-Words-Array.is-1, view-Array, length-items_list, c.as_slice-in-Words-Array.ensures.value)

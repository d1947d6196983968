use Rattle.toml.proofs.Views.{view-Array}
use Rattle.rim_rules.proofs.ListsOfValues.{items_list-view}
use Rattle.rim_rules.proofs.value.items.Goals as goal

pub returns-in-Array : goal.returns-in-Array
returns-in-Array c = rw (c.in-Array.is, view-Array, items_list-view, c.as_slice.ensures.value)

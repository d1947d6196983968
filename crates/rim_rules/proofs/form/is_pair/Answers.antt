use Rattle.toml.proofs.Views.{view-Array}
use Rattle.rim_rules.proofs.ListsOfValues.{all_items, length-items_list}
use Rattle.rim_rules.proofs.form.is_pair.Goals as goal

pub returns-in-Array : goal.returns-in-Array
returns-in-Array c = rw (c.in-Array.is, view-Array, length-items_list, all_items, ← c.as_slice.ensures.value) c.are_two.ensures

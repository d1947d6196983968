use Rattle.std.proofs.Common.{drop}
use Rattle.list_model.specs.inside.Acts.{act_entries}
use Rattle.rmi_list.specs.inside.Acts.{HaveRoom, item_of}
use Rattle.rmi_list.proofs.EntryByEntry.{Going}
use Rattle.rmi_list.proofs.EntryByEntry.{acts_left, pool_of}
use Rattle.rmi_list.proofs.draft.Draft.acts.Given as goal

abbrev pub invariant-loop-act : goal.invariant-loop-act
invariant-loop-act l =
    let old = l.initial.self in
    Going old l.self (act_entries (pool_of old) old.taken (item_of l.item) 0 l.acts) (acts_left old (item_of l.item) l.page l.acts l.act-index l.self.taken)
    × HaveRoom (item_of l.item) l.page (drop l.act-index l.acts)

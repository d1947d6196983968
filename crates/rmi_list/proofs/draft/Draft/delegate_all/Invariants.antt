use Rattle.rmm_model.specs.Blocks.{granules}
use Rattle.list_model.specs.Entries.{delegate_all, granule}
use Rattle.rmi_list.proofs.EntryByEntry.{Going}
use Rattle.rmi_list.proofs.EntryByEntry.{delegations_left, pool_of}
use Rattle.rmi_list.proofs.draft.Draft.delegate_all.Given as goal

abbrev pub invariant-loop : goal.invariant-loop
invariant-loop l =
    let old = l.initial.self in
    Going old l.self (delegate_all (granules l.count (granule (pool_of old) old.taken))) (delegations_left old l.count l.counter l.self.taken)

use Rattle.std.proofs.Common.{◌≡◌, ◌-◌, ◌+◌, ap, arith}
use Rattle.std.proofs.lemmas.Result.{err_from_is_err_and}
use Rattle.rmm_model.proofs.GranulesInARow.{granules-none}
use Rattle.list_model.specs.Entries.{delegate_all}
use Rattle.rmi_list.proofs.EntryByEntry.{delegation, delegations_left, going-ends, going-on, going-refused, going-starts, next-delegation}
use Rattle.rmi_list.proofs.draft.Draft.delegate_all.Goals as goal

pub loop-init : goal.loop-init
loop-init c = let e : c.args.count - 0 ≡ c.args.count = omega arith in rw e (going-starts _ _)

pub returns-in_err-delegate : goal.returns-in_err-delegate
returns-in_err-delegate c =
    let p = err_from_is_err_and c.from_residual.result c.from_residual.ensures.1 in
    rw (p.1, p.2) (going-refused c.args.self.now c.loop.self _ _ (delegation c.loop.self) (delegations_left c.args.self.now c.args.count (c.loop.counter + 1))
    c.in_err-delegate.field-0.0 c.loop.invariant (next-delegation _ _ c.args.count c.loop.counter c.loop-test.true) c.in_err-delegate.ensures.lists)

pub loop-preserved : goal.loop-preserved
loop-preserved c =
    going-on c.args.self.now c.loop.self c.delegate.new.self _ _ (delegation c.loop.self) (delegations_left c.args.self.now c.args.count (c.loop.counter + 1))
    c.loop.invariant (next-delegation _ _ c.args.count c.loop.counter c.loop-test.true) c.in_ok-delegate.ensures.lists

pub returns : goal.returns
returns c = going-ends _ _ _ _ c.loop.invariant (ap delegate_all (granules-none (c.args.count - c.loop.counter) _ (omega arith)))

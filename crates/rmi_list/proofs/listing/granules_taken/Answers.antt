use Rattle.std.proofs.Common.{refl}
use Rattle.rmi_list.specs.Granules.{with_config}
use Rattle.rmi_list.proofs.ListStepByStep.{whole-granules}
use Rattle.rmi_list.proofs.listing.granules_taken.Goals as goal

pub returns-in-Ok : goal.returns-in-Ok
returns-in-Ok c =
    let largest = c.with_largest_pool-config.result in
    let whole = rw c.in-Ok.is at c.in_ok-draft.ensures.whole in (
      largest,
      rw c.config.ensures.value at c.with_largest_pool-config.ensures,
      whole-granules (with_config c.args.launch.now largest) c.args.placed.now c.in-Ok.draft whole,
    )

pub returns-in-Err : goal.returns-in-Err
returns-in-Err c =
    let reason = rw c.in-Err.is at c.in_ok-draft.ensures.reason in
    (c.with_largest_pool-config.result, rw c.config.ensures.value at c.with_largest_pool-config.ensures, rw reason.refused refl)

use Rattle.std.proofs.Common.{refl}
use Rattle.rmm_model.specs.declared.outcome.Kind.TheVariants.{DataPage}
use Rattle.rmm_model.proofs.KindsAfterGifts.{kind_of-here}
use Rattle.rmm_monitor.proofs.monitor.Monitor.assign.Goals as goal

pub give-requires : goal.give-requires
give-requires c =
    let has : _ = kind_of-here c.self.inside.owners c.args.granule DataPage in
    rw (c.if-not-take.ensures.taken refl, has) refl

pub give-requires-in-Err : goal.give-requires-in-Err
give-requires-in-Err c =
    let has : _ = kind_of-here c.self.inside.owners c.args.granule DataPage in
    rw (c.if-not-take.ensures.taken refl, has) refl

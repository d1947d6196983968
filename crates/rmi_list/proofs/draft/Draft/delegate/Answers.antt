use Rattle.std.proofs.Common.{arith}
use Rattle.std.proofs.lemmas.Grind.{common_steps}
use Rattle.rmi_list.proofs.draft.Draft.delegate.Goals as goal

pub overflow_cast-granule : goal.overflow_cast-granule
overflow_cast-granule c =
    let count = c.args.self.now.config.pool_fits.1 in
    grind (arith, common_steps)

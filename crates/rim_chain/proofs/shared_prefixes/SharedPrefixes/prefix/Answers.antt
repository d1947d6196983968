use Rattle.std.proofs.Common.{subst, sym}
use Rattle.rim_chain.specs.SharedPrefixes.{AreShared}
use Rattle.rim_chain.proofs.KnownPrefixes.{shared-prefix}
use Rattle.rim_chain.proofs.shared_prefixes.SharedPrefixes.prefix.Goals as goal

pub returns : goal.returns
returns c = λ t p shared plan.
    let at = rw c.as_slice.ensures.value at c.in_ok-checkpoints.ensures in
    shared-prefix t c.args.plans.now _ c.in_ok-shared_prefix.shared_prefix.launch c.args.number c.in_ok-checkpoints.checkpoints.now c.in_ok-prefix.prefix.links c.in_ok-prefix.prefix.value p
    (subst (AreShared t c.args.plans.now) (sym c.self.view_is) shared) at c.in_ok-prefix.ensures (c.is_own.ensures c.if-not-is_own.false) plan

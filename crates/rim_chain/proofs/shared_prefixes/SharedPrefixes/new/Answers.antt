use Rattle.rim_chain.proofs.KnownPrefixes.{shared-first}
use Rattle.rim_chain.proofs.shared_prefixes.SharedPrefixes.new.Goals as goal

pub returns : goal.returns
returns c = λ t ps. shared-first (λ v. v.items) t ps c.in_ok-checkpoints.checkpoints.items c.in_ok-checkpoints.ensures

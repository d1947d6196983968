use Rattle.std.proofs.Common.{◌≡◌, length}
use Rattle.rim_chain.specs.Chains.{HaveGoneOn}
use Rattle.rim_chain.proofs.under_way.go_on_together.Given as goal

abbrev pub invariant-parts : goal.invariant-parts
invariant-parts l = record {
  chains : HaveGoneOn l.fn.chains l.chains;
  values : length l.values ≡ length l.fn.chains;
  descriptors : length l.descriptors ≡ length l.fn.chains;
  taken : length l.taken ≡ length l.fn.chains;
}

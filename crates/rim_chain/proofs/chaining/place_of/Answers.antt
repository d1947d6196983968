use Rattle.std.proofs.Common.{arith, refl}
use Rattle.rim_chain.proofs.chaining.place_of.Goals as goal

pub returns-in-None : goal.returns-in-None
returns-in-None c = record {
  links = omega arith;
  pages = refl;
  value = c.realm_value.ensures c.args.row.now.digests;
}

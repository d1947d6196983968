use Rattle.std.proofs.Common.{◌≡◌}
use Rattle.rim_chain.specs.inside.Places.{IsPlace}
use Rattle.rim_chain.proofs.chaining.chained_to.Given as goal

abbrev pub invariant-loop-at : goal.invariant-loop-at
invariant-loop-at l = record {
  place : IsPlace l.plan l.row.digests l.place;
  links : l.place.links ≡ l.at;
}

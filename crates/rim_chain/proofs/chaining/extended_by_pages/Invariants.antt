use Rattle.std.proofs.Common.{◌≡◌, ◌+◌, ◌*◌, drop}
use Rattle.rim_desc.specs.Part.{extended_by}
use Rattle.launch_plan.specs.Links.{pages_with}
use Rattle.rim_chain.proofs.chaining.extended_by_pages.Given as goal

abbrev pub invariant-loop-digest : goal.invariant-loop-digest
invariant-loop-digest l = record {
  place : l.next ≡ l.ipa + 4096 * l.digest-index;
  left : extended_by l.algo l.rim.bytes (pages_with l.next (drop l.digest-index l.digests))
      ≡ extended_by l.algo l.fn.rim.bytes (pages_with l.ipa l.digests);
}

use Rattle.std.proofs.Common.{◌≡◌, length, drop}
use Rattle.rim_desc.specs.Part.{extended_by}
use Rattle.launch_plan.specs.Links.{keys_of, parts_with}
use Rattle.rim_chain.proofs.under_way.extended_by_links.Given as goal

abbrev pub invariant-loop-link : goal.invariant-loop-link
invariant-loop-link l = record {
  filled : length l.digests ≡ length (keys_of (drop l.link-index l.links));
  left : extended_by l.algo l.rim.bytes (parts_with (drop l.link-index l.links) l.digests) ≡ extended_by l.algo l.initial.rim.bytes (parts_with l.links l.initial.digests);
}

use Rattle.std.proofs.Common.{rules, ◌≡◌, ℕ, List, length, map, take, arith}
use Rattle.std.proofs.lemmas.List.{take_all}
use Rattle.std.specs.Borrow.{Bor}
use Rattle.rim_desc.specs.Measurement.{measurement_of}
use Rattle.rim_desc.specs.declared.measurement.Measurement.{Measurement}
use Rattle.rim_desc.proofs.EachInTurn.{written_next}
use Rattle.rim_desc.proofs.side_by_side.hash_one_by_one.Goals as goal

pub each-preserved : goal.each-preserved
each-preserved c = (
  search rules,
  written_next (λ (m : Measurement). m.bytes) (λ (m : Bor (List ℕ)). measurement_of c.args.algo m.now) c.each.digests c.args.messages.now c.each.i
      c.hash.result _
      (omega (arith, c.each.invariant.0)) c.each.invariant.0 c.each.invariant.1 c.hash.ensures,
)

pub returns : goal.returns
returns c =
    let all : take c.each.i c.each.digests ≡ c.each.digests = take_all c.each.i c.each.digests (omega (arith, c.each.invariant.0)) in
    let whole : take c.each.i c.args.messages.now ≡ c.args.messages.now = take_all c.each.i c.args.messages.now (omega arith) in
    rw (all, whole) at c.each.invariant.1

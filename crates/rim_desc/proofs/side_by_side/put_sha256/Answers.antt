use Rattle.std.proofs.Common.{rules, ◌≡◌, ◌++◌, ℕ, List, [], length, map, take, refl, ap, sym, ◌∙◌, arith}
use Rattle.std.proofs.lemmas.List.{take_all}
use Rattle.rim_desc.specs.declared.measurement.Measurement.{Measurement}
use Rattle.rim_desc.specs.Page.{zeros}
use Rattle.rim_desc.proofs.EachInTurn.{written_next}
use Rattle.rim_desc.proofs.side_by_side.put_sha256.Goals as goal

pub each-preserved : goal.each-preserved
each-preserved c = (
  search rules,
  written_next (λ (m : Measurement). m.bytes) (λ (d : List ℕ). d ++ zeros 32) c.each.rims c.args.digests.now c.each.i c.of_sha256.result []
      (omega (arith, c.each.invariant.0)) c.each.invariant.0
      c.each.invariant.1 c.of_sha256.ensures,
)

pub returns : goal.returns
returns c =
    let all : take c.each.i c.each.rims ≡ c.each.rims = take_all c.each.i c.each.rims (omega (arith, c.each.invariant.0)) in
    let whole : take c.each.i c.args.digests.now ≡ c.args.digests.now = take_all c.each.i c.args.digests.now (omega arith) in
    rw (all, whole) at c.each.invariant.1

use Rattle.std.proofs.Common.{rules, ◌≡◌, ◌++◌, ℕ, List, [], length, map, take, refl, ap, sym, ◌∙◌, arith}
use Rattle.std.proofs.lemmas.List.{take_all}
use Rattle.rim_desc.specs.declared.measurement.Measurement.{Measurement}
use Rattle.rim_desc.proofs.EachInTurn.{map_itself, written_next}
use Rattle.rim_desc.proofs.side_by_side.put_sha512.Goals as goal

pub each-preserved : goal.each-preserved
each-preserved c = (
  search rules,
  written_next (λ (m : Measurement). m.bytes) (λ (d : List ℕ). d) c.each.rims c.args.digests.now c.each.i _ [] (omega (arith, c.each.invariant.0))
      c.each.invariant.0
      c.each.invariant.1 refl,
)

pub returns : goal.returns
returns c =
    let all : take c.each.i c.each.rims ≡ c.each.rims = take_all c.each.i c.each.rims (omega (arith, c.each.invariant.0)) in
    let whole : take c.each.i c.args.digests.now ≡ c.args.digests.now = take_all c.each.i c.args.digests.now (omega arith) in
    (rw (all, whole) at c.each.invariant.1) ∙ map_itself c.args.digests.now

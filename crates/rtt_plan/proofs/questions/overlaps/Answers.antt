use Rattle.std.proofs.Common.{◌≡◌, ℕ, arith, ltb}
use Rattle.std.specs.Map.Iter.{deref_pair}
use Rattle.std.specs.BTreeMap.Range.{range_contains}
use Rattle.std.specs.Ordering.{nat_cmp}
use Rattle.std.specs.declared.ops.Bound.TheVariants.{Excluded, Unbounded}
use Rattle.std.proofs.lemmas.Bool.Decides.{nat_tests}
use Rattle.rmm_model.proofs.LastMeets.{last-meets, none-meets}
use Rattle.rtt_plan.proofs.questions.overlaps.Goals as goal

-- the test of the range below `top`
same : (top : ℕ) (e : ℕ × ℕ) → range_contains nat_cmp Unbounded (Excluded top) e.0 ≡ ltb e.0 top
same top e = grind (arith, nat_tests)

pub returns-in-Some : goal.returns-in-Some
returns-in-Some c =
    last-meets deref_pair (λ e. range_contains nat_cmp Unbounded (Excluded c.args.top) e.0) c.args.ranges.now.entries
    c.range.result c.next_back.new.self c.next_back.result (c.in-Some.field-0-0, c.in-Some.end) c.args.base c.args.top
    c.requires (same c.args.top) (c.range.ensures.between tt) c.in-Some.is c.next_back.ensures.steps

pub returns-in-None : goal.returns-in-None
returns-in-None c =
    none-meets deref_pair (λ e. range_contains nat_cmp Unbounded (Excluded c.args.top) e.0) c.args.ranges.now.entries
    c.range.result c.next_back.new.self c.next_back.result c.args.base c.args.top
    (same c.args.top) (c.range.ensures.between tt) c.in-None.is c.next_back.ensures.steps

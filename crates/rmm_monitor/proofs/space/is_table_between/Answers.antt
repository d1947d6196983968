use Rattle.std.proofs.Common.{◌≡◌, ◌∙◌, ◌&&◌, ℕ, arith, leb, ltb, eqb}
use Rattle.std.specs.BTreeMap.Range.{range_contains}
use Rattle.std.specs.Map.Iter.{deref}
use Rattle.std.specs.declared.ops.Bound.TheVariants.{Included, Excluded}
use Rattle.std.proofs.lemmas.Bool.Decides.{nat_tests}
use Rattle.rmm_model.specs.declared.table.Table.{Table}
use Rattle.rmm_model.specs.Space.{table_cmp}
use Rattle.rmm_monitor.proofs.FirstPasses.{first-passes}
use Rattle.rmm_monitor.proofs.space.is_table_between.Goals as goal

-- of tables in order, those from (level, base) on and before (level, top) are the level's in the range
same : (level base top : ℕ) (t : Table) → range_contains table_cmp (Included (record { level = level; base = base })) (Excluded (record { level = level; base = top })) t
    ≡ (eqb t.level level && (leb base t.base && ltb t.base top))
same level base top t = grind (arith, nat_tests)

pub returns : goal.returns
returns c = c.is_some.ensures ∙
    first-passes deref (range_contains table_cmp (Included (record { level = c.args.level; base = c.args.base })) (Excluded (record { level = c.args.level; base = c.args.top })))
    (λ t. eqb t.level c.args.level && (leb c.args.base t.base && ltb t.base c.args.top)) c.args.tables.now.keys
    c.range.result c.next.new.self c.next.result (same c.args.level c.args.base c.args.top) (c.range.ensures.between tt) c.next.ensures.steps

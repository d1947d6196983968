use Rattle.std.proofs.Common.{◌≡◌, ◌∙◌, ap, arith, false, refl, sym}
use Rattle.rmm_model.specs.Space.{is_ram, overlaps}
use Rattle.rmm_model.proofs.LastMeets.{apart-insert}
use Rattle.rmm_model.proofs.SameSpaces.{placed-alike}
use Rattle.rtt_plan.proofs.LargestBlocks.{whole-region}
use Rattle.rtt_plan.proofs.RunsCoverRegion.{region-runs}
use Rattle.rtt_plan.proofs.PlansStayFormed.{runs-placed}
use Rattle.rtt_plan.proofs.OneMoreRange.{overlaps-more, pages-more, ram-more}
use Rattle.rtt_plan.proofs.tables.Tables.ripas_runs.Goals as goal

pub total_entries-requires-clause-region : goal.total_entries-requires-clause-region
total_entries-requires-clause-region c = whole-region _ _ c.if-base-ne0.false c.if-end-ne0.false

pub add_region-requires-clause-region : goal.add_region-requires-clause-region
add_region-requires-clause-region c = whole-region _ _ c.if-base-ne0.false c.if-end-ne0.false

pub invariant_of-self-2 : goal.invariant_of-self-2
invariant_of-self-2 c = record {
  start = c.self.invariant.start;
  least_level = c.self.invariant.least_level;
  protected_end = c.self.invariant.protected_end;
  entries = c.in-Some.ensures.limit;
  tables = placed-alike _ _ _ (λ level base. sym (c.in_ok-acts.ensures.tables level base))
      (runs-placed _ _ _ _ _ (region-runs _ _ _ _ c.self.invariant.start (whole-region _ _ c.if-base-ne0.false c.if-end-ne0.false) c.self.invariant.least_level c.requires)
      c.self.invariant.tables);
  ram = rw c.in_ok-acts.ensures.ram (pages-more c.self.inside.ram.entries c.args.base c.args.end c.self.invariant.ram c.if-base-ne0.false c.if-end-ne0.false c.requires);
  ram_apart = rw c.in_ok-acts.ensures.ram (apart-insert c.self.inside.ram.entries 0 c.args.base c.args.end c.self.invariant.ram_apart (omega arith) c.requires
      (sym c.overlaps.ensures ∙ c.if-overlaps.false));
  assigned = c.self.invariant.assigned;
  assigned_apart = c.self.invariant.assigned_apart;
}

pub returns-clause-after : goal.returns-clause-after
returns-clause-after c =
    let free : overlaps c.self.inside.ram.entries c.args.base c.args.end ≡ false = sym c.overlaps.ensures ∙ c.if-overlaps.false in
    rw (← c.self.view_is) (record {
      space = record {
        start = refl;
        protected_end = refl;
        tables = c.in_ok-acts.ensures.tables;
        ram = λ x. ap (λ rs. is_ram rs x) c.in_ok-acts.ensures.ram ∙ ram-more c.self.inside.ram.entries c.args.base c.args.end x c.self.invariant.ram_apart c.requires free;
        ranges = λ base top lt. ap (λ rs. overlaps rs base top) c.in_ok-acts.ensures.ram
            ∙ overlaps-more c.self.inside.ram.entries c.args.base c.args.end base top c.self.invariant.ram_apart c.requires free;
        assigned = λ x. refl;
      };
      least_level = refl;
      entries = c.in-Some.ensures.total;
    })

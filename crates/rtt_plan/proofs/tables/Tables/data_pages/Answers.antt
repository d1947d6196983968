use Rattle.std.proofs.Common.{◌≡◌, ◌+◌, ◌*◌, ◌∙◌, arith, sym, refl, ap, false}
use Rattle.rmm_model.specs.Blocks.{granules}
use Rattle.rmm_model.specs.Space.{has, overlaps}
use Rattle.rmm_model.proofs.LastMeets.{apart-insert}
use Rattle.rmm_model.proofs.SameSpaces.{placed-alike}
use Rattle.rtt_plan.specs.inside.PageRanges.{pages_of}
use Rattle.rtt_plan.proofs.DataPagesAsRanges.{assigned-overlaps}
use Rattle.rtt_plan.proofs.PlansStayFormed.{pages-placed}
use Rattle.rtt_plan.proofs.OneMoreRange.{assigned-more, pages-more}
use Rattle.rtt_plan.proofs.tables.Tables.data_pages.Goals as goal

pub invariant_of-self-2 : goal.invariant_of-self-2
invariant_of-self-2 c =
    let free : overlaps c.self.inside.assigned.entries c.args.base (c.args.base + 4096 * c.args.count) ≡ false =
    assigned-overlaps c.self.inside.assigned.entries c.args.count c.args.base c.self.invariant.assigned c.if-base-ne0.false c.requires
    ∙ sym c.any_assigned.ensures ∙ c.if-any_assigned.false in
    record {
      start = c.self.invariant.start;
      least_level = c.self.invariant.least_level;
      protected_end = c.self.invariant.protected_end;
      entries = c.self.invariant.entries;
      tables = placed-alike _ _ _ (λ level base. sym (c.in_ok-acts.ensures.tables level base))
          (pages-placed c.self.inside.start (granules c.args.count c.args.base) _ c.self.invariant.tables);
      ram = c.self.invariant.ram;
      ram_apart = c.self.invariant.ram_apart;
      assigned = rw c.in_ok-acts.ensures.assigned
          (pages-more c.self.inside.assigned.entries c.args.base (c.args.base + 4096 * c.args.count) c.self.invariant.assigned c.if-base-ne0.false
          (omega (arith, c.if-base-ne0.false)) (omega (arith, c.requires)));
      assigned_apart = rw c.in_ok-acts.ensures.assigned
          (apart-insert c.self.inside.assigned.entries 0 c.args.base (c.args.base + 4096 * c.args.count) c.self.invariant.assigned_apart (omega arith)
          (omega (arith, c.requires)) free);
    }

pub returns-clause-after : goal.returns-clause-after
returns-clause-after c =
    let free : overlaps c.self.inside.assigned.entries c.args.base (c.args.base + 4096 * c.args.count) ≡ false =
    assigned-overlaps c.self.inside.assigned.entries c.args.count c.args.base c.self.invariant.assigned c.if-base-ne0.false c.requires
    ∙ sym c.any_assigned.ensures ∙ c.if-any_assigned.false in
    rw (← c.self.view_is) (record {
      space = record {
        start = refl;
        protected_end = refl;
        tables = c.in_ok-acts.ensures.tables;
        ram = λ x. refl;
        ranges = λ base top lt. refl;
        assigned = λ x. ap (λ rs. has (pages_of rs) x) c.in_ok-acts.ensures.assigned
            ∙ assigned-more c.self.inside.assigned.entries c.args.base c.args.count x c.self.invariant.assigned_apart c.requires free;
      };
      least_level = refl;
      entries = refl;
    })

use Rattle.std.proofs.Common.{◌≡◌, ◌∙◌, ℕ, length, get_or, replicate, false, None, subst, sym, rules}
use Rattle.job_core.specs.declared.job.JobState.TheVariants.{Free}
use Rattle.job_core.specs.inside.Needs.{groups_of, needs_of}
use Rattle.job_core.specs.inside.Reaches.{AreGroups, all_of}
use Rattle.job_core.proofs.ReadyByReaches.{start, waits_fresh}
use Rattle.job_core.specs.inside.Lines.{IsLine}
use Rattle.std.specs.Prelude.{vec_capacity}
use Rattle.std.proofs.lemmas.List.{length-replicate}
use Rattle.job_core.proofs.LineOfReady.{passed_none}
use Rattle.job_core.proofs.NotesOfWorkers.{notes_fresh}
use Rattle.job_core.proofs.jobs.Jobs.new.Goals as goal

pub all_left-requires : goal.all_left-requires
all_left-requires c = (c.args.pages, rw (c.groups-2.ensures, c.launches-2.ensures) c.requires.groups)

pub invariant_of-result : goal.invariant_of-result
invariant_of-result c =
    let r : c.in_ok-retired.retired.items ≡ replicate c.args.workers false = search rules in
    let p : c.in_ok-pages.pages.items ≡ replicate c.args.pages Free = search rules in
    let l : c.in_ok-launches.launches.items ≡ replicate c.launches.result Free = search rules in
    let h : c.in_ok-holding.holding.items ≡ replicate c.args.workers None = search rules in
    let cs : c.in_ok-cursors.cursors.items ≡ replicate (length c.groups.result.now) start = search rules in
    let size : length c.in_ok-left.left.items ≡ length (needs_of c.args.needs) = c.in_ok-left.ensures.size ∙ c.launches-2.ensures in
    let are : AreGroups c.args.pages (length c.in_ok-left.left.items) (groups_of c.args.needs) = subst (λ (n : ℕ). AreGroups c.args.pages n (groups_of c.args.needs)) (sym size) c.requires.groups in
    let counts : (n : ℕ) → get_or c.in_ok-left.left.items n 0 ≡ all_of n (groups_of c.args.needs) = rw c.groups-2.ensures at c.in_ok-left.ensures.counts in
    let waits = waits_fresh c.args.pages (groups_of c.args.needs) c.in_ok-left.left.items are counts in
    let line : IsLine c.in_ok-left.left.items c.in_ok-ready.ready.items (vec_capacity c.in_ok-ready.ready) = rw c.deref.ensures.value at c.in_ok-ready.ensures in
    rw (r, p, l, h, cs, c.groups.ensures) (notes_fresh c.args.workers c.args.pages c.launches.result (needs_of c.args.needs), waits, c.requires.index, line, passed_none (replicate c.launches.result Free) c.in_ok-ready.ready.items, c.in_ok-left.ensures.size ∙ (c.launches-2.ensures ∙ (sym c.launches.ensures ∙ sym (length-replicate c.launches.result Free))))

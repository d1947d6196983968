use Rattle.std.proofs.Common.{◌≡◌, take, drop, ap, ◌∙◌}
use Rattle.page_jobs.proofs.PagesSideBySide.{digests_of_part}
use Rattle.page_jobs.proofs.hashed_ahead.HashedAhead.hash_from.Goals as goal

pub invariant_of-self : goal.invariant_of-self
invariant_of-self c =
    let part : c.split_at-2.result.0.now ≡ take c.min.result (drop c.args.number c.args.self.now.pages.now) =
    c.split_at-2.ensures.front ∙ ap (take c.min.result) c.split_at.ensures.back in
    record { own = digests_of_part c.args.self.now.pages.now c.args.number c.min.result _ (rw part at c.hash_group-self.ensures.digests) }

use Rattle.std.proofs.Common.{◌≡◌, ◌∙◌, ℕ, length, replicate, sym, ap, subst, rules, arith}
use Rattle.std.proofs.lemmas.List.{take_at, length-replicate}
use Rattle.job_core.specs.inside.Reaches.{AreGroups}
use Rattle.job_core.proofs.ReadyByReaches.{zeros}
use Rattle.job_core.proofs.reaches.all_left.Goals as goal

pub count_all-requires-clause-groups : goal.count_all-requires-clause-groups
count_all-requires-clause-groups c =
    let l : c.in_ok-left.left.items ≡ replicate c.args.launches 0 = search rules in
    let size : length c.deref_mut.result.now ≡ c.args.launches = ap length c.deref_mut.ensures.value ∙ (ap length l ∙ length-replicate c.args.launches 0) in
    (c.requires.0, subst (λ (n : ℕ). AreGroups c.requires.0 n c.args.groups.now) (sym size) c.requires.1)

pub count_all-requires-clause-zeros : goal.count_all-requires-clause-zeros
count_all-requires-clause-zeros c =
    let l : c.in_ok-left.left.items ≡ replicate c.args.launches 0 = search rules in
    λ n. rw (c.deref_mut.ensures.value, l) (zeros c.args.launches n)

pub returns : goal.returns
returns c =
    let l : c.in_ok-left.left.items ≡ replicate c.args.launches 0 = search rules in
    let new : length c.count_all.new.left ≡ c.in_ok-left.left.len = omega (arith, c.count_all.auto.left, c.deref_mut.ensures.len) in
    let size : length c.count_all.new.left ≡ c.args.launches = c.count_all.auto.left ∙ (ap length c.deref_mut.ensures.value ∙ (ap length l ∙ length-replicate c.args.launches 0)) in
    rw (take_at c.count_all.new.left _ c.in_ok-left.left.len new) (record { size = size; counts = c.count_all.ensures })

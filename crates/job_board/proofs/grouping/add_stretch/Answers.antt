use Rattle.std.proofs.Common.{◌≡◌, length, refl, arith}
use Rattle.std.proofs.lemmas.List.{take_at}
use Rattle.job_board.proofs.grouping.add_stretch.Goals as goal

pub extend_last-requires : goal.extend_last-requires
extend_last-requires c = rw (c.deref_mut.ensures.value, ← c.deref.ensures.value) (c.if-begins_last.ensures.yes refl)

pub returns-then-begins_last : goal.returns-then-begins_last
returns-then-begins_last c =
    let size : length c.extend_last.new.groups ≡ c.args.groups.now.len = omega (arith, c.extend_last.auto.groups, c.deref_mut.ensures.len) in
    let ensures_it = rw c.deref_mut.ensures.value at c.extend_last.ensures in
    rw (take_at c.extend_last.new.groups _ c.args.groups.now.len size) ensures_it

use Rattle.std.proofs.Common.{ap, ◌∙◌, arith}
use Rattle.sha2.specs.Sha512.{rounds, schedule}
use Rattle.rim_sha512.proofs.rounds.four_steps.Goals as goal

pub returns : goal.returns
returns c b h known held =
    let after = rounds h (schedule b 64) in
    let s1 = c.step-v.ensures b h known held in
    let s2 = c.step-v-2.ensures b h known s1 in
    let s3 = c.step-v-3.ensures b h known (s2 ∙ ap after (omega arith)) in
    c.step.ensures b h known (s3 ∙ ap after (omega arith)) ∙ ap after (omega arith)

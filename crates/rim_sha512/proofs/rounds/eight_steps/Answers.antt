use Rattle.std.proofs.Common.{ap, ◌∙◌, arith}
use Rattle.sha2.specs.Sha512.{rounds, schedule}
use Rattle.rim_sha512.proofs.rounds.eight_steps.Goals as goal

pub returns : goal.returns
returns c b h known held =
    let s1 = c.four_steps-v.ensures b h known held in
    c.four_steps.ensures b h known s1 ∙ ap (rounds h (schedule b 64)) (omega arith)

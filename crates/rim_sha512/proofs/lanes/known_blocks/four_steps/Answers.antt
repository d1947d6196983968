-- tools/checks/widths.py makes this text from that for SHA-256.
use Rattle.std.proofs.Common.{ap, ◌∙◌, arith}
use Rattle.sha2.specs.Sha512.{rounds, schedule}
use Rattle.rim_sha512.proofs.lanes.known_blocks.four_steps.Goals as goal

pub returns : goal.returns
returns g c j b h low known held =
    let after = rounds h (schedule b 64) in
    let s1 = c.step-v.ensures j b h low known held in
    let s2 = c.step-v-2.ensures j b h low known s1 in
    let s3 = c.step-v-3.ensures j b h low known (s2 ∙ ap after (omega arith)) in
    c.step.ensures j b h low known (s3 ∙ ap after (omega arith)) ∙ ap after (omega arith)

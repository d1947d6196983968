use Rattle.std.proofs.Common.{ap, arith}
use Rattle.sha2.specs.Sha512.{schedule}
use Rattle.sha2.proofs.Schedule512.{IsWindow_next, window_word_at}
use Rattle.sha_lanes.specs.inside.Pairs.{flat}
use Rattle.sha_lanes.proofs.Pairs.{at_place512}
use Rattle.sha_lanes.proofs.TwoWords.{next512, two_words}
use Rattle.rim_sha512.proofs.schedule.step.Goals as goal

pub returns : goal.returns
returns c b held =
    let word = c.next_pair-pair.ensures in
    let more =
    two_words next512 80 (schedule b 64) (IsWindow_next b) (window_word_at b) 0 1 c.args.turn c.args.place c.requires.low c.requires.place (omega arith)
    c.args.w.now c.next_pair-pair.result held.0 word.first word.second in
    at_place512 b _ _ _ _ (omega arith) (rw (ap (flat 0 1) word.window) more.2, c.put_sums.ensures b held.1 more.0 more.1)

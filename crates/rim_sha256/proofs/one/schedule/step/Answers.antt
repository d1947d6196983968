use Rattle.std.proofs.Common.{ℕ, List, ap, arith}
use Rattle.sha2.specs.Sha256.{schedule}
use Rattle.sha2.proofs.Schedule256.{IsWindow_next, window_word_at}
use Rattle.sha_lanes.specs.inside.Pairs.{flat}
use Rattle.sha_lanes.proofs.Pairs.{at_place256}
use Rattle.sha_lanes.proofs.TwoWords.{next256, two_words}
use Rattle.rim_sha256.proofs.one.schedule.step.Goals as goal

pub returns : goal.returns
returns c =
    let turn = c.args.turn in
    let place = c.args.place in
    let w = c.args.w.now in
    let word = c.next_pairs-pairs.ensures in
    let two = λ (b : List ℕ). two_words next256 64 (schedule b 48) (IsWindow_next b) (window_word_at b) in
    record {
      first = λ b held.
          let more = two b 0 1 turn place c.requires.low c.requires.place (omega arith) w c.next_pairs-pairs.result held.0 word.first word.second in
          at_place256 0 1 b _ _ _ _ (omega arith) (rw (ap (flat 0 1) word.window) more.2, c.put_sums.ensures.first b held.1 more.0 more.1);
      second = λ b held.
          let more = two b 2 3 turn place c.requires.low c.requires.place (omega arith) w c.next_pairs-pairs.result held.0 word.third word.fourth in
          at_place256 2 3 b _ _ _ _ (omega arith) (rw (ap (flat 2 3) word.window) more.2, c.put_sums.ensures.second b held.1 more.0 more.1);
    }

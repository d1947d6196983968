use Rattle.std.proofs.Common.{◌∙◌, refl, arith}
use Rattle.sha_lanes.proofs.TwoWords.{next256, word_first, word_second}
use Rattle.rim_sha256.proofs.one.schedule.next_pairs.Goals as goal

pub returns : goal.returns
returns c =
    let w = c.args.w.now in
    let p = c.args.place in
    record {
      first = rw (c.between.ensures, c.between-2.ensures) at (c.next-pairs.ensures.1 0 (omega arith)) ∙ word_first next256 0 1 w p c.requires;
      second = rw (c.between.ensures, c.between-2.ensures) at (c.next-pairs.ensures.1 1 (omega arith)) ∙ word_second next256 0 1 w p c.requires;
      third = rw (c.between.ensures, c.between-2.ensures) at (c.next-pairs.ensures.1 2 (omega arith)) ∙ word_first next256 2 3 w p c.requires;
      fourth = rw (c.between.ensures, c.between-2.ensures) at (c.next-pairs.ensures.1 3 (omega arith)) ∙ word_second next256 2 3 w p c.requires;
      window = refl;
    }

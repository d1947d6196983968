use Rattle.std.proofs.Common.{◌∙◌, refl, arith}
use Rattle.sha_lanes.proofs.TwoWords.{next512, word_first, word_second}
use Rattle.rim_sha512.proofs.schedule.next_pair.Goals as goal

pub returns : goal.returns
returns c =
    let w = c.args.w.now in
    let p = c.args.place in
    record {
      first = rw (c.between.ensures, c.between-2.ensures) at (c.next-pair.ensures.1 0 (omega arith)) ∙ word_first next512 0 1 w p c.requires;
      second = rw (c.between.ensures, c.between-2.ensures) at (c.next-pair.ensures.1 1 (omega arith)) ∙ word_second next512 0 1 w p c.requires;
      window = refl;
    }

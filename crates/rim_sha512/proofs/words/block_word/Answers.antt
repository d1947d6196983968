use Rattle.std.proofs.Common.{◌≡◌, ◌+◌, ◌-◌, arith}
use Rattle.rim_sha512.proofs.words.block_word.Goals as goal

pub returns : goal.returns
returns c =
    let width : c.args.at + 128 - c.args.at ≡ 128 = omega arith in
    rw width at c.word.ensures

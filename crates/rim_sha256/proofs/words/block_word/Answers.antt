use Rattle.std.proofs.Common.{◌≡◌, ◌+◌, ◌-◌, arith}
use Rattle.rim_sha256.proofs.words.block_word.Goals as goal

pub returns : goal.returns
returns c =
    let width : c.args.at + 64 - c.args.at ≡ 64 = omega arith in
    rw width at c.word.ensures

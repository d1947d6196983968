use Rattle.std.specs.Int.{w64, to_be_bytes}
use Rattle.fdt_tree.proofs.WrittenTokens.{two}
use Rattle.fdt_tree.proofs.writing.put_pair.Goals as goal

pub returns : goal.returns
returns c =
    two c.args.out.now.items (to_be_bytes w64 c.args.pair.address)
    (to_be_bytes w64 c.args.pair.size) c.put_double_word.new.out.items c.put_double_word-2.new.out.items
    c.in_ok-put_double_word.ensures c.in_ok-put_double_word-2.ensures

use Rattle.fdt_tree.proofs.WrittenTokens.{five_words}
use Rattle.fdt_tree.proofs.writing.put_versions.Goals as goal

pub returns : goal.returns
returns c =
    let l = c.args.lengths in
    five_words c.args.out.now.items 17 16 c.args.boot_cpu l.strings l.structure
    c.put_word.new.out.items c.put_word-2.new.out.items c.put_word-3.new.out.items c.put_word-4.new.out.items c.put_word-5.new.out.items
    c.in_ok-put_word.ensures c.in_ok-put_word-2.ensures c.in_ok-put_word-3.ensures c.in_ok-put_word-4.ensures c.in_ok-put_word-5.ensures

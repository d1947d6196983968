use Rattle.std.proofs.Common.{◌≡◌, drop}
use Rattle.fdt_tree.specs.Names.{all_name_characters}
use Rattle.fdt_tree.proofs.reading.lexing.is_legal.Given as goal

abbrev pub invariant-loop-byte : goal.invariant-loop-byte
invariant-loop-byte l = all_name_characters (drop l.byte-index l.name) ≡ all_name_characters l.name

use Rattle.std.proofs.Common.{refl}
use Rattle.fdt_tree.specs.Reading.{parts_at}
use Rattle.fdt_tree.proofs.reading.contents_of.Goals as goal

pub returns-clause-exact : goal.returns-clause-exact
unfolding parts_at
returns-clause-exact c =
    rw (
      ← c.in_ok-header.ensures.exact,
      ← c.reserve_block.ensures,
      c.in_ok-reservations.ensures,
      ← c.strings_block.ensures,
      ← c.structure_block.ensures,
      ← c.in_ok-strings.ensures,
      c.in_ok-root.ensures.exact,
    ) refl

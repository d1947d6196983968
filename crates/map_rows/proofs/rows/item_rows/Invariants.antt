use Rattle.std.proofs.Common.{◌≡◌, ◌++◌}
use Rattle.std.specs.Prelude.{vec_len}
use Rattle.ipa_layout.specs.Files.{bytes_of_files}
use Rattle.map_rows.specs.Rows.{rows_from, rows_of}
use Rattle.map_rows.proofs.rows.item_rows.Given as goal

-- the rows so far, and those of the items that are left
abbrev pub invariant-loop-item : goal.invariant-loop-item
invariant-loop-item l =
    l.rows.items ++ rows_from (bytes_of_files l.files) l.placed (vec_len l.rows) l.item-iterator.a.rest.now l.item-iterator.b.rest.now
    ≡ rows_of l.launch (bytes_of_files l.files) l.placed

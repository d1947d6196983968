use Rattle.std.proofs.Common.{◌≡◌, map, take}
use Rattle.map_rows.specs.Stretches.{row_pages}
use Rattle.map_rows.proofs.stretches.taken.Given as goal

-- the pages of the rows so far
abbrev pub invariant-loop-row : goal.invariant-loop-row
invariant-loop-row l = l.taken.items ≡ map row_pages (take l.row-index l.rows)

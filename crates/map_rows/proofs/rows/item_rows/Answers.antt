use Rattle.std.proofs.Common.{inl, inr}
use Rattle.map_rows.proofs.RowsInTurn.{rows-over}
use Rattle.map_rows.proofs.rows.item_rows.Goals as goal

pub returns : goal.returns
returns c = rows-over _ _ _ _ _ _ _ (elim c.in-None.ensures.steps [ inl first ↦ inl first.1.0 | inr second ↦ inr second.1.0 ]) c.loop-item.invariant

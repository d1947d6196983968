use Rattle.std.proofs.Common.{◌∙◌, sym}
use Rattle.rmm_model.proofs.WalksByLookUp.{walk-1, walk-2, walk-3, walk-none}
use Rattle.rmm_model.proofs.table.walk_level.Goals as goal

pub returns-then-is_made-clause-value : goal.returns-then-is_made-clause-value
returns-then-is_made-clause-value c = walk-3 _ _ _ c.requires (sym c.is_made.ensures ∙ c.if-is_made.true)

pub returns-then-is_made-2-clause-value : goal.returns-then-is_made-2-clause-value
returns-then-is_made-2-clause-value c =
    walk-2 _ _ _ c.requires (sym c.is_made.ensures ∙ c.if-is_made.false) (sym c.is_made-else-is_made.ensures ∙ c.if-is_made-2.true)

pub returns-then-is_made-3-clause-value : goal.returns-then-is_made-3-clause-value
returns-then-is_made-3-clause-value c = walk-1 _ _ _ c.requires (sym c.is_made.ensures ∙ c.if-is_made.false)
    (sym c.is_made-else-is_made.ensures ∙ c.if-is_made-2.false) (sym c.is_made-else-is_made-2.ensures ∙ c.if-is_made-3.true)

pub returns-else-is_made-3-clause-value : goal.returns-else-is_made-3-clause-value
returns-else-is_made-3-clause-value c = walk-none _ _ _ c.requires (sym c.is_made.ensures ∙ c.if-is_made.false)
    (sym c.is_made-else-is_made.ensures ∙ c.if-is_made-2.false) (sym c.is_made-else-is_made-2.ensures ∙ c.if-is_made-3.false)

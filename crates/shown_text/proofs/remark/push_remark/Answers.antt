use Rattle.std.proofs.Common.{◌++◌, ◌∷◌, [], subst, sym}
use Rattle.shown_text.specs.Lines.{SayInTurn}
use Rattle.shown_text.proofs.AddedRemarks.{remarks-append}
use Rattle.shown_text.proofs.remark.push_remark.Goals as goal

pub returns : goal.returns
returns c s own said says = subst (SayInTurn (said ++ s ∷ [])) (sym c.in_ok-push.ensures.items) (remarks-append said s _ _ own says)

use Rattle.std.proofs.Common.{ℕ, ◌<◌, get_or}
use Rattle.ipa_layout.specs.declared.rec.PlacedRec.{PlacedRec}
use Rattle.rim_binding.specs.Widths.{FitsPlacedRec}
use Rattle.rim_binding.proofs.widths.recs_fit.Given as goal

abbrev pub invariant-loop-rec : goal.invariant-loop-rec
invariant-loop-rec l = (k : ℕ) (d : PlacedRec) → k < l.rec-index → FitsPlacedRec (get_or l.recs k d)

use Rattle.std.proofs.Common.{◌≡◌, ℕ, List, length, map}
use Rattle.std.specs.Vec.Iter.{into_iter_items, into_iter_len}
use Rattle.rim_files.specs.Files.{Known}
use Rattle.rim_files.specs.AtOnce.{AreFollowedBy, IsUnknown}
use Rattle.rim_files.proofs.AtOnce.{IsAnswer}
use Rattle.rim_files.proofs.at_once.read_opened.Given as goal

abbrev pub invariant-loop-outcome : goal.invariant-loop-outcome
invariant-loop-outcome g l = record {
  long : into_iter_len l.outcome-iterator ≡ length (into_iter_items l.outcome-iterator);
  read : (held : List ℕ → Known) (paths : List (List ℕ))
      → AreFollowedBy IsUnknown held paths (map (λ file. file.items) l.initial.files.items) l.fn.opened.items
      → AreFollowedBy (IsAnswer (λ file. file.items)) held paths (map (λ file. file.items) l.files.items) (into_iter_items l.outcome-iterator);
}

use Rattle.std.proofs.Common.{ℕ, List, [], None, Some, ap}
use Rattle.rim_check.specs.Explained.{fault_said}
use Rattle.rim_check.specs.inside.Listed.{no_document}
use Rattle.rim_check.proofs.manifest.syntax_remark.Goals as goal

pub returns : goal.returns
returns c = (
  c.error_spot.result,
  c.in_ok-push_remark.ensures (fault_said c.args.path.now None (no_document c.error_spot.result)) (record {
    word = ap (λ (word : List ℕ). Some word) c.kind.ensures;
    place = c.in_ok-remark.ensures;
    given = tt;
    expected = tt;
    help = tt;
  }) [] c.new-remarks.ensures.items,
)

-- Items with the same values are the same.
use Rattle.std.proofs.Common.{◌≡◌, ◌<◌, ◌^◌, true}
use Rattle.std.proofs.Math.Bool.{Bool-set}
use Rattle.std.specs.Prelude.{unwrap_or}
use Rattle.std.specs.Coded.{le_prop}
use mathlib.Core.HLevel.{is_prop→PathP}
use Rattle.rim_launch.specs.Whole.{is_whole}
use Rattle.rim_launch.specs.declared.item.Item.{Item}

pub same_item : (a b : Item) → a.kind ≡ b.kind → a.at ≡ b.at → a.size ≡ b.size → a.measured ≡ b.measured → a ≡ b
same_item a b kind at size measured = λ i. record {
  kind = kind i;
  at = at i;
  size = size i;
  measured = measured i;
  low = is_prop→PathP (λ j. at j < 2 ^ 63) (λ j. le_prop) a.low b.low i;
  size_low = is_prop→PathP (λ j. unwrap_or (size j) 0 < 2 ^ 63) (λ j. le_prop) a.size_low b.size_low i;
  whole = is_prop→PathP (λ j. is_whole (kind j) (size j) (measured j) ≡ true) (λ j. Bool-set _ _) a.whole b.whole i;
}

-- A launch as contracts see it, and the conditions of its type, each by its name. The ranges of its numbers are
-- kept by the types of its parts. This project's choice.
use Rattle.std.specs.Prelude.{ℕ, List, length, Bool, ◌&&◌, nat_le}
use Rattle.std.specs.List.{list_all}
use Rattle.rim_launch.specs.declared.config.Config.{Config}
use Rattle.rim_launch.specs.declared.item.Region.{Region}
use Rattle.rim_launch.specs.declared.item.Item.{Item}
use Rattle.rim_launch.specs.declared.rec.Rec.{Rec}
use Rattle.rim_launch.specs.declared.step.Step.{Step}
use Rattle.rim_launch.specs.Kinds.{file_of, is_below, once_each, edits_possible}
use Rattle.rim_launch.specs.Steps.{steps_complete}
use Rattle.rim_launch.specs.declared.launch.TheConstants.{ITEM_LIMIT, NAMED_REC_LIMIT, REGION_LIMIT}

pub record LaunchData : Type 0 where
  -- its number in the release
  pub number : ℕ
  pub config : Config
  pub ram : List Region
  pub items : List Item
  pub recs : List Rec
  pub steps : List Step

abbrev pub within_limits : LaunchData → Bool
within_limits l = nat_le (length l.ram) REGION_LIMIT && nat_le (length l.items) ITEM_LIMIT && nat_le (length l.recs) NAMED_REC_LIMIT

abbrev pub steps_fit : LaunchData → Bool
steps_fit l = steps_complete (length l.ram) (length l.items) (length l.recs) l.steps

unfoldable pub is_launch : LaunchData → Bool
is_launch l = within_limits l && once_each l.items && edits_possible l.ram l.items && steps_fit l

-- each file that an item has is one of the first `count` files
abbrev pub has_files : LaunchData → ℕ → Bool
has_files l count = list_all (λ i. is_below count (file_of i.kind)) l.items

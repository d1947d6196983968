-- The steps of a launch: each region, each item and each REC has one. This project's choice.
use Rattle.std.specs.Prelude.{ℕ, List, Bool, ◌&&◌, ◌==◌, ◌++◌, nat_lt, count_by, filter, map, false, Option, Some, None}
use Rattle.std.specs.List.{enumerate_from, list_all, range_with_len}
use Rattle.rim_launch.specs.declared.item.Role.{Role}
use Rattle.rim_launch.specs.declared.item.Role.TheVariants as role
use Rattle.rim_launch.specs.declared.item.Item.{Item}
use Rattle.rim_launch.specs.declared.step.Step.{Step}
use Rattle.rim_launch.specs.declared.step.Step.TheVariants as step
use Rattle.rim_launch.specs.Kinds.{has_role}
use Rattle.rim_launch.specs.declared.conditions.StepTarget.{StepTarget}
use Rattle.rim_launch.specs.declared.conditions.StepTarget.TheVariants as target

-- whether a step names what the launch has
abbrev pub names_something : ℕ → ℕ → ℕ → Step → Bool
names_something num_regions num_items num_recs (step.Ram n) = nat_lt n num_regions
names_something num_regions num_items num_recs (step.Item n) = nat_lt n num_items
names_something num_regions num_items num_recs (step.Rec n) = nat_lt n num_recs

-- the number that a step names, where it is a step for this target
abbrev pub number_of : StepTarget → Step → Option ℕ
number_of target.Ram (step.Ram n) = Some n
number_of target.Item (step.Item n) = Some n
number_of target.Rec (step.Rec n) = Some n
number_of _ _ = None

abbrev pub is_number : ℕ → Option ℕ → Bool
is_number k None = false
is_number k (Some n) = n == k

-- whether a step is for this target and names this number
abbrev pub names : StepTarget → ℕ → Step → Bool
names p k s = is_number k (number_of p s)

-- how many steps name it
abbrev pub times : StepTarget → ℕ → List Step → ℕ
times p k steps = count_by (names p k) steps

-- each number below n is named by exactly one step for this target
unfoldable pub each_once : StepTarget → List Step → ℕ → Bool
each_once p steps n = list_all (λ k. times p k steps == 1) (range_with_len 0 n)

-- each step names what the launch has, and each region, item and REC is named by exactly one
abbrev pub steps_complete : ℕ → ℕ → ℕ → List Step → Bool
steps_complete num_regions num_items num_recs steps = list_all (names_something num_regions num_items num_recs) steps
    && each_once target.Ram steps num_regions && each_once target.Item steps num_items && each_once target.Rec steps num_recs

-- ---- the steps of a launch that names none

-- a step for each item with a role, in their order
abbrev pub item_steps : Role → List Item → List Step
item_steps r items = map (λ p. step.Item p.0) (filter (λ p. has_role r p.1) (enumerate_from 0 items))

-- the regions, the kernel, the initrd, the devicetree, the raw items, those of unknown content, the RECs
unfoldable pub default_steps : ℕ → List Item → ℕ → List Step
default_steps num_regions items num_recs =
    map step.Ram (range_with_len 0 num_regions) ++ item_steps role.Kernel items ++ item_steps role.Initrd items
    ++ item_steps role.Dtb items ++ item_steps role.Raw items ++ item_steps role.Unknown items ++ map step.Rec (range_with_len 0 num_recs)

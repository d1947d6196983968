-- The texts of steps: `ram N`, `item NAME` and `rec N`. This project's choice.
use Rattle.std.specs.Prelude.{ℕ, ◌+◌, Bool, false, not, ◌&&◌, ◌||◌, ◌==◌, List, length, map, slice_index, Option, Some, None, option_map, position, unwrap_or, codes, if◌then◌else◌}
use Rattle.std.specs.List.{list_any}
use Rattle.std.specs.Str.Parse.{digits_value}
use Rattle.toml.specs.Data.{Data, get}
use Rattle.rim_launch.specs.Steps.{default_steps, steps_complete}
use Rattle.rim_launch.specs.declared.item.Item.{Item}
use Rattle.rim_launch.specs.declared.step.Step.{Step}
use Rattle.rim_launch.specs.declared.step.Step.TheVariants as step
use Rattle.rim_rules.specs.Forms.{items_of}
use Rattle.rim_rules.specs.Names.{is_named}
use Rattle.rim_rules.specs.Kinds.{step_front}
use Rattle.rim_rules.specs.declared.kind.StepKind.TheVariants as about
use Rattle.rim_rules.specs.Values.{array_at, text_in}
use Rattle.rim_rules.specs.Words.{after, are_digits}
use Rattle.rim_launch.specs.declared.launch.TheConstants.{REGION_LIMIT}

-- decimal digits without a leading zero; up to four, since no launch has 10,000 regions or RECs
abbrev pub is_decimal : List ℕ → Bool
is_decimal text = are_digits 10 4 text && ((length text == 1) || not (slice_index text 0 == 48))

abbrev pub decimal_number : Option (List ℕ) → Option ℕ
decimal_number (Some digits) = if is_decimal digits then Some (digits_value 10 digits) else None
decimal_number None = None

-- the place of the item of a name
abbrev pub item_number : List Data → Option (List ℕ) → Option ℕ
item_number items (Some name) = position (is_named name) items
item_number items None = None

abbrev pub or_else : {A : Type 0} → Option A → Option A → Option A
or_else (Some x) other = Some x
or_else None other = other

-- the step that a text spells, where the tables of the launch's items are these
abbrev pub step_of : List Data → List ℕ → Option Step
step_of items text =
    or_else (option_map step.Ram (decimal_number (after (step_front about.Ram) text)))
    (or_else (option_map step.Item (item_number items (after (step_front about.Item) text)))
    (option_map step.Rec (decimal_number (after (step_front about.Rec) text))))

-- the step that a text reads as: a text that spells none, as the step of a region that no launch has
abbrev pub step_in : List Data → Data → Step
step_in items d = unwrap_or (step_of items (text_in (Some d))) (step.Ram REGION_LIMIT)

-- the steps of a launch of n regions, these items and m RECs, where the tables of its items are these
abbrev pub steps_in : ℕ → List Data → List Item → ℕ → Option Data → List Step
steps_in regions tables items recs None = default_steps regions items recs
steps_in regions tables items recs (Some d) = map (step_in tables) (items_of d)

-- ---- steps that do not fit

abbrev pub part_count : Data → ℕ
part_count d = length (array_at (codes "ram") d) + length (array_at (codes "item") d) + length (array_at (codes "rec") d)

-- the steps are not as many as the regions, items and RECs together; such steps never fit, and are not read
abbrev pub miscounts : Data → Option Data → Bool
miscounts d None = false
miscounts d (Some s) = not (length (items_of s) == part_count d)

-- a step names what the launch does not have, or something of the launch is not named by exactly one step
abbrev pub misnames : Data → Option Data → Bool
misnames d None = false
misnames d (Some s) = let items = array_at (codes "item") d in
    not (steps_complete (length (array_at (codes "ram") d)) (length items) (length (array_at (codes "rec") d)) (map (step_in items) (items_of s)))

abbrev pub is_miscounted : Data → Bool
is_miscounted d = miscounts d (get (codes "steps") d)

abbrev pub is_misnamed : Data → Bool
is_misnamed d = misnames d (get (codes "steps") d)

-- a launch has steps that do not fit
abbrev pub has_bad_steps : List Data → Bool
has_bad_steps ds = list_any is_miscounted ds || list_any is_misnamed ds

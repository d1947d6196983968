use Rattle.std.proofs.Common.{◌≡◌, ℕ, List, map, codes, Option, Some, ◌∙◌}
use Rattle.toml.specs.Data.{Data}
use Rattle.toml.specs.View.{view}
use Rattle.toml.specs.declared.value.Value.{Value}
use Rattle.rim_launch.specs.declared.item.Item.{Item}
use Rattle.rim_launch.specs.declared.step.Step.{Step}
use Rattle.rim_rules.specs.Forms.{items_of}
use Rattle.rim_manifest.specs.StepTexts.{step_in, steps_in}
use Rattle.rim_rules.specs.Values.{array_at}
use Rattle.rim_rules.proofs.ListsOfValues.{map_of_views}
use Rattle.rim_manifest.proofs.step.read_steps.Goals as goal

spelled : (tables texts : List Value) (launch d : Data) (o : Option Data) (regions : ℕ) (things : List Item) (recs : ℕ) (steps : List Step)
    → map view tables ≡ array_at (codes "item") launch
    → map view texts ≡ items_of d → o ≡ Some d → steps ≡ map (λ t. step_in (map view tables) (view t)) texts
    → steps ≡ steps_in regions (array_at (codes "item") launch) things recs o
spelled tables texts launch d o regions things recs steps tables_are texts_are there e =
    rw (there, ← tables_are) (e ∙ map_of_views (step_in (map view tables)) texts _ texts_are)

pub returns-in_ok-spelled_steps-in-Some : goal.returns-in_ok-spelled_steps-in-Some
returns-in_ok-spelled_steps-in-Some c =
    spelled _ _ (view c.args.launch.now) _ _ _ _ _ _ c.array.ensures c.items.ensures c.in-Some.ensures c.in_ok-spelled_steps-in-Some.ensures

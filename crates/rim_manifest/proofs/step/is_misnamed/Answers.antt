use Rattle.std.proofs.Common.{◌≡◌, List, length, map, Bool, true, not, codes, Some, ap, sym, ◌∙◌}
use Rattle.std.proofs.lemmas.List.{length-map}
use Rattle.toml.specs.Data.{Data, get}
use Rattle.toml.specs.View.{view}
use Rattle.toml.specs.declared.value.Value.{Value}
use Rattle.rim_launch.specs.Steps.{steps_complete}
use Rattle.rim_launch.specs.declared.step.Step.{Step}
use Rattle.rim_rules.proofs.ListsOfValues.{map_of_views}
use Rattle.rim_rules.specs.Forms.{items_of}
use Rattle.rim_rules.specs.Values.{array_at}
use Rattle.rim_manifest.specs.StepTexts.{is_misnamed, step_in}
use Rattle.rim_manifest.proofs.step.is_misnamed.Goals as goal

-- steps that are not complete are misnamed
misnamed : (launch texts_at : Data) (ram tables recs texts : List Value) (steps : List Step) (complete : Bool) → get (codes "steps") launch ≡ Some texts_at
    → map view ram ≡ array_at (codes "ram") launch → map view tables ≡ array_at (codes "item") launch → map view recs ≡ array_at (codes "rec") launch
    → map view texts ≡ items_of texts_at → steps ≡ map (λ t. step_in (map view tables) (view t)) texts
    → complete ≡ steps_complete (length ram) (length tables) (length recs) steps → not complete ≡ true → is_misnamed launch ≡ true
misnamed launch texts_at ram tables recs texts steps complete there ram_are tables_are recs_are texts_are steps_are complete_is misses =
    let regions : length ram ≡ length (array_at (codes "ram") launch) = sym (length-map ram view) ∙ ap length ram_are in
    let things : length tables ≡ length (array_at (codes "item") launch) = sym (length-map tables view) ∙ ap length tables_are in
    let processors : length recs ≡ length (array_at (codes "rec") launch) = sym (length-map recs view) ∙ ap length recs_are in
    let spelled : steps ≡ map (step_in (array_at (codes "item") launch)) (items_of texts_at) =
    steps_are ∙ map_of_views (step_in (map view tables)) texts _ texts_are ∙ ap (λ ts. map (step_in ts) (items_of texts_at)) tables_are in
    let same : steps_complete (length ram) (length tables) (length recs) steps
    ≡ steps_complete (length (array_at (codes "ram") launch)) (length (array_at (codes "item") launch)) (length (array_at (codes "rec") launch))
    (map (step_in (array_at (codes "item") launch)) (items_of texts_at)) =
    λ i. steps_complete (regions i) (things i) (processors i) (spelled i) in
    rw there (ap not (sym same) ∙ ap not (sym complete_is) ∙ misses)

pub returns : goal.returns
returns c = misnamed (view c.args.launch.now) _ _ _ _ _ c.in_ok-steps.steps.items _ c.in-Some.ensures c.array-num_regions.ensures c.array-tables.ensures
    c.array-num_recs.ensures c.items.ensures c.in_ok-steps.ensures (c.steps_complete.ensures ∙ ap (steps_complete _ _ _) c.deref.ensures.value)

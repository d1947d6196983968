use Rattle.std.proofs.Common.{◌≡◌, List, Option, length, map, codes, ◌∙◌, inr, string_bytes}
use Rattle.toml.specs.View.{view}
use Rattle.toml.specs.Data.{Data, get}
use Rattle.rim_manifest.specs.StepTexts.{steps_in}
use Rattle.rim_rules.specs.Values.{array_at}
use Rattle.rim_launch.specs.declared.item.Item.{Item}
use Rattle.rim_launch.specs.declared.item.Region.{Region}
use Rattle.rim_launch.specs.declared.rec.Rec.{Rec}
use Rattle.rim_rules.specs.Items.{item_of}
use Rattle.rim_rules.specs.Names.{name_of}
use Rattle.rim_manifest.specs.Launches.{launch_of, rec_of, region_in}
use Rattle.rim_manifest.proofs.MadeWithoutFaults.{none_made, parts_read, some_made}
use Rattle.rim_rules.proofs.ListsOfValues.{map_of_views}
use Rattle.rim_manifest.proofs.launch.read_launch.Goals as goal

steps_of : {ram ram' : List Region} {items items' : List Item} {recs recs' : List Rec} → ram ≡ ram' → items ≡ items' → recs ≡ recs'
    → (tables : List Data) (o : Option Data) → steps_in (length ram) tables items (length recs) o ≡ steps_in (length ram') tables items' (length recs') o
steps_of ram items recs tables o = λ i. steps_in (length (ram i)) tables (items i) (length (recs i)) o

pub returns-in-Some : goal.returns-in-Some
returns-in-Some c =
    some_made (launch_of c.args.version (map view c.args.files.now) c.args.number (view c.args.table.now))
    (string_bytes c.in_ok-name.name) (map string_bytes c.in_ok-item_names.item_names.items) c.in-Some.launch c.new.result
    (c.in_ok-name.ensures.ok ∙ c.text.ensures)
    (c.in_ok-item_names.ensures ∙ map_of_views name_of c.array-2.result.now _ c.array-2.ensures)
    (parts_read c.args.version (map view c.args.files.now) c.args.number (view c.args.table.now) _ _ _ _ _ c.new.result c.read_config-config.ensures
    (c.in_ok-ram.ensures ∙ map_of_views region_in c.array.result.now _ c.array.ensures)
    (c.in_ok-items.ensures ∙ map_of_views (item_of (map view c.args.files.now)) c.array-3.result.now _ c.array-3.ensures)
    (c.in_ok-recs.ensures ∙ map_of_views rec_of c.array-4.result.now _ c.array-4.ensures)
    (c.in_ok-steps.ensures ∙ steps_of c.deref.ensures.value c.deref-2.ensures.value c.deref-3.ensures.value
    (array_at (codes "item") (view c.args.table.now)) (get (codes "steps") (view c.args.table.now))) c.new.ensures)
    c.in-Some.is

pub returns-in-None : goal.returns-in-None
returns-in-None c =
    inr (none_made (launch_of c.args.version (map view c.args.files.now) c.args.number (view c.args.table.now)) c.new.result
    (parts_read c.args.version (map view c.args.files.now) c.args.number (view c.args.table.now) _ _ _ _ _ c.new.result c.read_config-config.ensures
    (c.in_ok-ram.ensures ∙ map_of_views region_in c.array.result.now _ c.array.ensures)
    (c.in_ok-items.ensures ∙ map_of_views (item_of (map view c.args.files.now)) c.array-3.result.now _ c.array-3.ensures)
    (c.in_ok-recs.ensures ∙ map_of_views rec_of c.array-4.result.now _ c.array-4.ensures)
    (c.in_ok-steps.ensures ∙ steps_of c.deref.ensures.value c.deref-2.ensures.value c.deref-3.ensures.value
    (array_at (codes "item") (view c.args.table.now)) (get (codes "steps") (view c.args.table.now))) c.new.ensures)
    c.in-None.is)

use Rattle.std.proofs.Common.{◌∙◌, sym, ◌&&◌, false, rules, tests}
use Rattle.std.proofs.lemmas.Iterator.{YieldsList-from_slice}
use Rattle.std.proofs.lemmas.Iterator.Search.{any_from_yields_List}
use Rattle.toml.specs.Data.{get}
use Rattle.toml.specs.View.{view}
use Rattle.toml.specs.declared.value.Value.{Value}
use Rattle.rim_launch.specs.declared.item.Role.TheVariants.{Dtb}
use Rattle.rim_rules.specs.Names.{is_at_role}
use Rattle.rim_rules.specs.Values.{truth_in}
use Rattle.rim_rules.proofs.ListsOfValues.{list_any_map}
use Rattle.rim_rules.proofs.names.asks_for.Goals as goal

pub returns : goal.returns
returns c =
    any_from_yields_List (λ (v : Value). is_at_role Dtb (view v) && truth_in false (get c.args.key.now (view v))) _ _ _ c.any.ensures.ran
    (YieldsList-from_slice c.args.items.now cc) (λ x b q k. search (rules, tests))
    ∙ sym (list_any_map (λ d. is_at_role Dtb d && truth_in false (get c.args.key.now d)) view c.args.items.now)

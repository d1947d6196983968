use Rattle.std.proofs.Common.{◌∙◌, Bool, rules, tests}
use Rattle.std.proofs.lemmas.Iterator.{YieldsList-from_slice}
use Rattle.std.proofs.lemmas.Iterator.Search.{position_from_yields_List}
use Rattle.std.proofs.lemmas.Iterator.Adapters.{position_from-zero}
use Rattle.std.specs.Str.{bytes_eq}
use Rattle.fdt_tree.specs.NodeViews.{name_of}
use Rattle.fdt_tree.specs.declared.node.Property.{Property}
use Rattle.fdt_tree.proofs.edits.property_index.Goals as goal

pub returns-clause-exact : goal.returns-clause-exact
returns-clause-exact c =
    let named : Property → Bool = λ p. bytes_eq (name_of c.args.strings.now p.name) c.args.name.now in
    position_from_yields_List named _ _ c.position.result c.position.ensures.ran (YieldsList-from_slice c.args.properties.now cc)
    (λ x b q k. search (rules, tests))
    ∙ position_from-zero named c.args.properties.now

use Rattle.std.proofs.Common.{List, [], ◌∷◌, ◌+◌, take, drop, sym, subst}
use Rattle.std.proofs.lemmas.Result.{err_from_is_err_and}
use Rattle.std.proofs.lemmas.List.{take_all}
use Rattle.fdt_tree.specs.declared.node.Property.{Property}
use Rattle.fdt_tree.specs.Devicetree.{Token, begin_node, property}
use Rattle.fdt_tree.specs.NodeViews.{property_data}
use Rattle.fdt_tree.specs.Writing.{names_after}
use Rattle.fdt_tree.specs.inside.NameTables.{TooMuch}
use Rattle.fdt_tree.specs.inside.OutputViews.{HasTokens, size_of, tokens_of_properties}
use Rattle.fdt_tree.proofs.WrittenTokens.{HasTokens_then, too_much_then, properties_split, one_more_property}
use Rattle.fdt_tree.proofs.writing.put_front.Goals as goal

pub returns-in_err-put_property-clause-refused : goal.returns-in_err-put_property-clause-refused
returns-in_err-put_property-clause-refused c =
    let p = err_from_is_err_and c.from_residual-in_err-put_property.result c.from_residual-in_err-put_property.ensures.1 in
    rw (p.1, p.2) (λ names h.
    let e = c.in_err-put_property.field-0.0 in
    let s = c.args.strings.now in
    let ps = c.args.properties.now in
    let i = c.loop-pair.pair-index in
    let begin = begin_node c.args.name.now in
    let front : List Token = begin ∷ tokens_of_properties s (take i ps) in
    let k = c.loop-pair.invariant names h in
    subst (λ (ts : List Token). TooMuch e (size_of names (begin ∷ ts))) (sym (properties_split s ps i c.pair-item.result c.loop-pair-test.true c.pair-item.is))
    (too_much_then e names front (property (property_data s c.pair-item.result) ∷ []) (tokens_of_properties s (drop (i + 1) ps))
    (c.in_err-put_property.ensures.refused (names_after names front) k.known)))

pub loop-pair-preserved : goal.loop-pair-preserved
loop-pair-preserved c = λ names h.
    let s = c.args.strings.now in
    let ps = c.args.properties.now in
    let i = c.loop-pair.pair-index in
    let begin = begin_node c.args.name.now in
    let front : List Token = begin ∷ tokens_of_properties s (take i ps) in
    let k = c.loop-pair.invariant names h in
    subst (λ (ts : List Token). HasTokens c.args.strings.now c.args.out.now c.put_property.new.out names (begin ∷ ts))
    (sym (one_more_property s ps i c.pair-item.result c.loop-pair-test.true c.pair-item.is))
    (HasTokens_then s c.args.out.now c.loop-pair.out c.put_property.new.out names front (property (property_data s c.pair-item.result) ∷ []) k
    (c.in_ok-put_property.ensures.done (names_after names front) k.known))

pub returns-clause-done : goal.returns-clause-done
returns-clause-done c = λ names h.
    subst (λ (ps : List Property). HasTokens c.args.strings.now c.args.out.now c.loop-pair.out names
    (begin_node c.args.name.now ∷ tokens_of_properties c.args.strings.now ps)) (take_all c.loop-pair.pair-index c.args.properties.now c.loop-pair-test.false)
    (c.loop-pair.invariant names h)

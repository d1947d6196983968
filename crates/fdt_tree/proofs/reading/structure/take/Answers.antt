use Rattle.std.proofs.Common.{take, drop, arith}
use Rattle.fdt_tree.proofs.OpenNodes.{begin_step, property_step, end_step, end_place}
use Rattle.fdt_tree.specs.Devicetree.{PropertyData}
use Rattle.fdt_tree.proofs.reading.structure.take.Goals as goal

pub returns-in_ok-push-in-Begin-clause-tokens : goal.returns-in_ok-push-in-Begin-clause-tokens
returns-in_ok-push-in-Begin-clause-tokens c = λ strings.
    rw c.in-Begin.is (begin_step strings c.args.nodes.outer.items c.push.new.self.items c.args.nodes.current c.in_ok-node-in-Begin.node c.in-Begin.name.now
    c.in_ok-push-in-Begin.ensures.items (c.in_ok-node-in-Begin.ensures strings))

pub returns-in_ok-current-in-Property-clause-tokens :
    goal.returns-in_ok-current-in-Property-clause-tokens
returns-in_ok-current-in-Property-clause-tokens c = λ strings.
    let early = rw c.in-Property.is at (c.requires strings) in
    let e : PropertyData = record { name = take c.in-Property.len (drop c.in-Property.start strings); value = c.in-Property.value.now } in
    let new = rw c.in_ok-from_slice-in-Property.ensures.items at (c.in_ok-current-in-Property.ensures strings) in
    rw c.in-Property.is (property_step strings c.args.nodes.outer.items c.args.nodes.current c.in_ok-current-in-Property.current e early new)

pub returns-in-None-clause-tokens : goal.returns-in-None-clause-tokens
returns-in-None-clause-tokens c = λ strings.
    let deep = rw c.in-EndNode.is at (c.requires strings) in
    absurd (omega (arith, deep, c.in-None.ensures.cases, c.args.nodes.outer.ok.0))

pub returns-in-None-clause-place : goal.returns-in-None-clause-place
returns-in-None-clause-place c = λ strings.
    let deep = rw c.in-EndNode.is at (c.requires strings) in
    absurd (omega (arith, deep, c.in-None.ensures.cases, c.args.nodes.outer.ok.0))

pub returns-in_ok-current-in-Some-clause-tokens : goal.returns-in_ok-current-in-Some-clause-tokens
returns-in_ok-current-in-Some-clause-tokens c = λ strings.
    rw c.in-EndNode.is (end_step strings c.args.nodes.outer.items c.pop.new.self.items c.in-Some.parent c.args.nodes.current c.in_ok-current-in-Some.current
    c.in-Some.ensures.items (c.in_ok-current-in-Some.ensures strings))

pub returns-in_ok-current-in-Some-clause-place : goal.returns-in_ok-current-in-Some-clause-place
returns-in_ok-current-in-Some-clause-place c = λ strings.
    rw c.in-EndNode.is (end_place strings c.args.nodes.outer.items c.pop.new.self.items c.in-Some.parent c.args.nodes.current
    c.in_ok-current-in-Some.current c.in-Some.ensures.items (c.in_ok-current-in-Some.ensures strings))

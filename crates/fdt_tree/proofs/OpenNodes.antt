-- The open nodes, and what one more token adds.
use Rattle.std.proofs.Common.{◌≡◌, ℕ, suc, ◌-◌, true, false, nat_lt, List, [], ◌∷◌, ◌++◌, length, map, refl, sym, ap, ◌∙◌, append_assoc, arith}
use Rattle.std.proofs.lemmas.List.{append-nil, map_push, length-append}
use Rattle.std.proofs.lemmas.Bool.{lt-ltb}
use Rattle.fdt_tree.specs.declared.node.Node.{Node}
use Rattle.fdt_tree.specs.declared.node.Node.TheOpen.{Node-F}
use Rattle.fdt_tree.specs.declared.node.Node.TheViews.{out-Node, roll-Node}
use Rattle.fdt_tree.specs.declared.node.Node.TheFolds.{fold-roll-Node, fold_out-Node}
use Rattle.fdt_tree.specs.Devicetree.{PropertyData, Nodes, none, node, Branch, joined, Token, begin_node, property, end_node, tokens, bare}
use Rattle.fdt_tree.specs.inside.OpenNodes.{has_any, opened, all_opened, with_property, followed, with_child}
use Rattle.fdt_tree.specs.NodeViews.{branch, branches, branch_step, property_data}
use Rattle.fdt_tree.specs.declared.reading.place.Place.{Place}

pub branch_roll : (strings : List ℕ) (x : Node-F Node)
    → branch strings (roll-Node x)
    ≡ record { name = x.name.items; properties = map (property_data strings) x.properties.items; children = joined (branches strings x.children.items) }
branch_roll strings = fold-roll-Node Branch (branch_step strings)

pub branch_out : (strings : List ℕ) (n : Node)
    → branch strings n ≡ record {
      name = (out-Node n).name.items;
      properties = map (property_data strings) (out-Node n).properties.items;
      children = joined (branches strings (out-Node n).children.items);
    }
branch_out strings = fold_out-Node Branch (branch_step strings)

pub all_opened_push : (bs : List Branch) (b : Branch) → all_opened (bs ++ b ∷ []) ≡ all_opened bs ++ opened b
all_opened_push [] b = append-nil (opened b)
all_opened_push (a ∷ bs) b = ap (λ (ts : List Token). opened a ++ ts) (all_opened_push bs b) ∙ sym (append_assoc (opened a) (all_opened bs) (opened b))

-- the tokens of nodes and one more
tokens_followed : (f : Nodes) (b : Branch) → tokens (followed f b) ≡ tokens f ++ (opened b ++ end_node ∷ [])
tokens_followed none b = ap (λ (ts : List Token). begin_node b.name ∷ ts) (sym (append_assoc (map property b.properties) (tokens b.children) (end_node ∷ [])))
tokens_followed (node n es k next) b =
    ap (λ (ts : List Token). begin_node n ∷ (map property es ++ (tokens k ++ (end_node ∷ ts)))) (tokens_followed next b)
    ∙ ap (λ (ts : List Token). begin_node n ∷ (map property es ++ ts)) (sym (append_assoc (tokens k) (end_node ∷ tokens next) (opened b ++ end_node ∷ [])))
    ∙ ap (λ (ts : List Token). begin_node n ∷ ts) (sym (append_assoc (map property es) (tokens k ++ (end_node ∷ tokens next)) (opened b ++ end_node ∷ [])))

pub joined_push : (bs : List Branch) (b : Branch) → joined (bs ++ b ∷ []) ≡ followed (joined bs) b
joined_push [] b = refl
joined_push (a ∷ bs) b = ap (node a.name a.properties a.children) (joined_push bs b)

-- a child that ends: its parent has one more
opened_child : (b child : Branch) → opened (with_child b child) ≡ (opened b ++ opened child) ++ end_node ∷ []
opened_child b child =
    ap (λ (ts : List Token). begin_node b.name ∷ (map property b.properties ++ ts)) (tokens_followed b.children child)
    ∙ ap (λ (ts : List Token). begin_node b.name ∷ ts) (sym (append_assoc (map property b.properties) (tokens b.children) (opened child ++ end_node ∷ [])))
    ∙ sym (append_assoc (opened b) (opened child) (end_node ∷ []))

-- a property, before any child
opened_property : (b : Branch) (e : PropertyData) → has_any b.children ≡ false → opened (with_property b e) ≡ opened b ++ property e ∷ []
opened_property b e h = go b.children h
  where
    go : (f : Nodes) → has_any f ≡ false
        → opened (record { name = b.name; properties = b.properties ++ e ∷ []; children = f })
        ≡ opened (record { name = b.name; properties = b.properties; children = f }) ++ property e ∷ []
    go none q =
        ap (λ (ts : List Token). begin_node b.name ∷ (ts ++ [])) (map_push property b.properties e)
        ∙ ap (λ (ts : List Token). begin_node b.name ∷ ts)
        (append-nil (map property b.properties ++ property e ∷ [])
        ∙ ap (λ (ts : List Token). ts ++ property e ∷ []) (sym (append-nil (map property b.properties))))
    go (node a b' c d) q = absurd cc

has_any_followed : (f : Nodes) (b : Branch) → has_any (followed f b) ≡ true
has_any_followed none b = refl
has_any_followed (node n es k next) b = refl

pub child_step : (strings : List ℕ) (parent child : Node) (x : Node-F Node) → x.name.items ≡ (out-Node parent).name.items
    → x.properties.items ≡ (out-Node parent).properties.items → x.children.items ≡ (out-Node parent).children.items ++ child ∷ []
    → branch strings (roll-Node x) ≡ with_child (branch strings parent) (branch strings child)
child_step strings parent child x n p k =
    let o = out-Node parent in
    let made : Nodes → Branch = λ f. record { name = o.name.items; properties = map (property_data strings) o.properties.items; children = f } in
    let one : branch strings (roll-Node x) ≡ made (joined (branches strings (o.children.items ++ child ∷ []))) = branch_roll strings x ∙ rw (n, p, k) refl in
    one
    ∙ ap (λ (bs : List Branch). made (joined bs)) (map_push (branch strings) o.children.items child)
    ∙ ap made (joined_push (branches strings o.children.items) (branch strings child))
    ∙ ap (λ (b : Branch). with_child b (branch strings child)) (sym (branch_out strings parent))

-- ---- what each token adds

outer_push : (strings : List ℕ) (outer outer' : List Node) (cur : Node) → outer' ≡ outer ++ cur ∷ []
    → all_opened (branches strings outer') ≡ all_opened (branches strings outer) ++ opened (branch strings cur)
outer_push strings outer outer' cur e =
    ap (λ (ns : List Node). all_opened (branches strings ns)) e ∙ ap all_opened (map_push (branch strings) outer cur)
    ∙ all_opened_push (branches strings outer) (branch strings cur)

pub begin_step : (strings : List ℕ) (outer outer' : List Node) (cur new : Node) (name : List ℕ) → outer' ≡ outer ++ cur ∷ [] → branch strings new ≡ bare name
    → all_opened (branches strings outer') ++ opened (branch strings new) ≡ (all_opened (branches strings outer) ++ opened (branch strings cur))
    ++ begin_node name ∷ []
begin_step strings outer outer' cur new name e n = rw (outer_push strings outer outer' cur e, n) refl

pub property_step : (strings : List ℕ) (outer : List Node) (cur new : Node) (e : PropertyData) → has_any (branch strings cur).children ≡ false
    → branch strings new ≡ with_property (branch strings cur) e
    → all_opened (branches strings outer) ++ opened (branch strings new) ≡ (all_opened (branches strings outer) ++ opened (branch strings cur))
    ++ property e ∷ []
property_step strings outer cur new e early n =
    ap (λ (b : Branch). all_opened (branches strings outer) ++ opened b) n
    ∙ ap (λ (ts : List Token). all_opened (branches strings outer) ++ ts) (opened_property (branch strings cur) e early)
    ∙ sym (append_assoc (all_opened (branches strings outer)) (opened (branch strings cur)) (property e ∷ []))

pub end_step : (strings : List ℕ) (outer outer' : List Node) (parent cur new : Node) → outer ≡ outer' ++ parent ∷ []
    → branch strings new ≡ with_child (branch strings parent) (branch strings cur)
    → all_opened (branches strings outer') ++ opened (branch strings new) ≡ (all_opened (branches strings outer) ++ opened (branch strings cur)) ++ end_node
    ∷ []
end_step strings outer outer' parent cur new e n =
    let front = all_opened (branches strings outer') in
    let b = opened (branch strings parent) in
    let c = opened (branch strings cur) in
    ap (λ (x : Branch). front ++ opened x) n
    ∙ ap (λ (ts : List Token). front ++ ts) (opened_child (branch strings parent) (branch strings cur))
    ∙ sym (append_assoc front (b ++ c) (end_node ∷ []))
    ∙ ap (λ (ts : List Token). ts ++ end_node ∷ [])
    (sym (append_assoc front b c) ∙ ap (λ (ts : List Token). ts ++ c) (sym (outer_push strings outer' outer parent e)))

-- ---- and where it leads

pub end_place : (strings : List ℕ) (outer outer' : List Node) (parent cur new : Node) → outer ≡ outer' ++ parent ∷ []
    → branch strings new ≡ with_child (branch strings parent) (branch strings cur)
    → (let p : Place = record { depth = length outer'; late = has_any (branch strings new).children } in p) ≡ record { depth = length outer - 1; late = true }
end_place strings outer outer' parent cur new e n =
    let f : length outer' ≡ length outer - 1 = omega (arith, ap length e, length-append outer' (parent ∷ [])) in
    let late : has_any (branch strings new).children ≡ true =
    ap (λ (x : Branch). has_any x.children) n ∙ has_any_followed (branch strings parent).children (branch strings cur) in
    rw (f, late) refl

late_of : (strings : List ℕ) (ns : List Node) → has_any (joined (branches strings ns)) ≡ nat_lt 0 (length ns)
late_of strings [] = refl
late_of strings (n ∷ ns) = sym (lt-ltb 0 (suc (length ns)) (omega arith))

pub late_is : (strings : List ℕ) (cur : Node) → has_any (branch strings cur).children ≡ nat_lt 0 (length (out-Node cur).children.items)
late_is strings cur = ap (λ (b : Branch). has_any b.children) (branch_out strings cur) ∙ late_of strings (out-Node cur).children.items

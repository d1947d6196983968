-- What a new value makes of the properties and the children of a node.
use Rattle.std.proofs.Common.{◌≡◌, ℕ, zero, suc, Result, Ok, Err, OnOk, OnErr, ◌+◌, ◌<◌, Bool, true, false, cond, List, [], ◌∷◌, ◌++◌, length, get_or, map}
use Rattle.std.proofs.Common.{Some, None, refl, sym, ap, ◌∙◌, arith}
use Rattle.std.proofs.Math.ListN.{set}
use Rattle.std.proofs.lemmas.List.{map_push}
use Rattle.std.specs.List.{position_from}
use Rattle.std.specs.Str.{bytes_eq}
use Rattle.fdt_tree.specs.declared.node.Property.{Property}
use Rattle.fdt_tree.specs.declared.node.Node.{Node}
use Rattle.fdt_tree.specs.declared.node.Node.TheOpen.{Node-F}
use Rattle.fdt_tree.specs.declared.node.Node.TheViews.{out-Node, roll-Node}
use Rattle.fdt_tree.specs.Devicetree.{PropertyData, Nodes, Branch, joined}
use Rattle.fdt_tree.specs.NodeViews.{name_of, property_data, branch, branches}
use Rattle.fdt_tree.specs.inside.OpenNodes.{followed}
use Rattle.fdt_tree.specs.Edits.{with_value, first_such, in_front_of}
use Rattle.fdt_tree.proofs.OpenNodes.{branch_roll, branch_out, child_step}

-- ---- properties

abbrev has_name : List ℕ → List ℕ → Property → Bool
has_name s name p = bytes_eq (name_of s p.name) name

abbrev ValuePut : List ℕ → List ℕ → List ℕ → List Property → ℕ → ℕ → Type 0
ValuePut s name v xs i at =
    (k : ℕ) × (at ≡ i + k) × (k < length xs)
    × ((x y : Property) → x ≡ get_or xs k x → property_data s y ≡ record { name = name_of s x.name; value = v }
    → map (property_data s) (set xs k y) ≡ with_value name v (map (property_data s) xs))

pub value_put_at : (s name v : List ℕ) (xs : List Property) (i at : ℕ) → position_from (has_name s name) i xs ≡ Some at → ValuePut s name v xs i at
value_put_at s name v [] i at e = absurd cc
value_put_at s name v (p ∷ ps) i at e = go (has_name s name p) refl e (value_put_at s name v ps (i + 1) at)
  where
    go : (b : Bool) → has_name s name p ≡ b → cond b (Some i) (position_from (has_name s name) (i + 1) ps) ≡ Some at
        → (position_from (has_name s name) (i + 1) ps ≡ Some at → ValuePut s name v ps (i + 1) at) → ValuePut s name v (p ∷ ps) i at
    go true h q ih =
        let here : i ≡ at = cc in (
          0,
          omega arith,
          omega arith,
          λ x y is e. rw h (ap (λ (w : PropertyData). w ∷ map (property_data s) ps)
              (e ∙ ap (λ (z : Property). let w : PropertyData = record { name = name_of s z.name; value = v } in w) is)),
        )
    go false h q ih =
        let t = ih q in
        (suc t.0, omega (arith, t.1), omega (arith, t.2), λ x y is e. rw h (ap (λ (ws : List PropertyData). property_data s p ∷ ws) (t.3 x y is e)))

pub value_added : (s name v : List ℕ) (xs : List Property) (i : ℕ) → position_from (has_name s name) i xs ≡ None
    → with_value name v (map (property_data s) xs) ≡ map (property_data s) xs ++ record { name = name; value = v } ∷ []
value_added s name v [] i e = refl
value_added s name v (p ∷ ps) i e = go (has_name s name p) refl e (value_added s name v ps (i + 1))
  where
    go : (b : Bool) → has_name s name p ≡ b → cond b (Some i) (position_from (has_name s name) (i + 1) ps) ≡ None
        → (position_from (has_name s name) (i + 1) ps ≡ None
        → with_value name v (map (property_data s) ps) ≡ map (property_data s) ps ++ record { name = name; value = v } ∷ [])
        → with_value name v (map (property_data s) (p ∷ ps)) ≡ map (property_data s) (p ∷ ps) ++ record { name = name; value = v } ∷ []
    go true h q ih = absurd cc
    go false h q ih = rw h (ap (λ (ws : List PropertyData). property_data s p ∷ ws) (ih q))

-- ---- children

abbrev passes : (List ℕ → Bool) → Node → Bool
passes test n = test (out-Node n).name.items

name_seen : (s : List ℕ) (test : List ℕ → Bool) (n : Node) (b : Bool) → passes test n ≡ b → test (branch s n).name ≡ b
name_seen s test n b e = ap (λ (x : Branch). test x.name) (branch_out s n) ∙ e

abbrev ChildChanged : List ℕ → (List ℕ → Bool) → (Branch → Branch) → Branch → List Node → ℕ → ℕ → Type 0
ChildChanged s test edit new xs i at =
    (k : ℕ) × (at ≡ i + k) × (k < length xs)
    × ((x y : Node) → x ≡ get_or xs k x → branch s y ≡ edit (branch s x) → joined (branches s (set xs k y)) ≡ first_such test edit new (joined (branches s xs)))

pub child_edited_at : (s : List ℕ) (test : List ℕ → Bool) (edit : Branch → Branch) (new : Branch) (xs : List Node) (i at : ℕ)
    → position_from (passes test) i xs ≡ Some at → ChildChanged s test edit new xs i at
child_edited_at s test edit new [] i at e = absurd cc
child_edited_at s test edit new (n ∷ ns) i at e = go (passes test n) refl e (child_edited_at s test edit new ns (i + 1) at)
  where
    go : (b : Bool) → passes test n ≡ b → cond b (Some i) (position_from (passes test) (i + 1) ns) ≡ Some at
        → (position_from (passes test) (i + 1) ns ≡ Some at → ChildChanged s test edit new ns (i + 1) at) → ChildChanged s test edit new (n ∷ ns) i at
    go true h q ih =
        let here : i ≡ at = cc in
        let seen = name_seen s test n true h in
        (0, omega arith, omega arith, λ x y is e. rw seen (ap (in_front_of (joined (branches s ns))) (e ∙ ap (λ (z : Node). edit (branch s z)) is)))
    go false h q ih =
        let t = ih q in
        let seen = name_seen s test n false h in
        (suc t.0, omega (arith, t.1), omega (arith, t.2), λ x y is e. rw seen (ap (λ (ks : Nodes). in_front_of ks (branch s n)) (t.3 x y is e)))

pub child_added : (s : List ℕ) (test : List ℕ → Bool) (edit : Branch → Branch) (new : Branch) (xs : List Node) (i : ℕ) → position_from (passes test) i xs ≡ None
    → first_such test edit new (joined (branches s xs)) ≡ followed (joined (branches s xs)) new
child_added s test edit new [] i e = refl
child_added s test edit new (n ∷ ns) i e = go (passes test n) refl e (child_added s test edit new ns (i + 1))
  where
    go : (b : Bool) → passes test n ≡ b → cond b (Some i) (position_from (passes test) (i + 1) ns) ≡ None
        → (position_from (passes test) (i + 1) ns ≡ None → first_such test edit new (joined (branches s ns)) ≡ followed (joined (branches s ns)) new)
        → first_such test edit new (joined (branches s (n ∷ ns))) ≡ followed (joined (branches s (n ∷ ns))) new
    go true h q ih = absurd cc
    go false h q ih = let seen = name_seen s test n false h in rw seen (ap (λ (ks : Nodes). in_front_of ks (branch s n)) (ih q))

pub child_kept : (s : List ℕ) (xs : List Node) (k : ℕ) (x y : Node) → k < length xs → x ≡ get_or xs k x → branch s y ≡ branch s x
    → branches s (set xs k y) ≡ branches s xs
child_kept s [] k x y lt is e = absurd (omega arith)
child_kept s (n ∷ ns) zero x y lt is e = ap (λ (b : Branch). b ∷ branches s ns) (e ∙ ap (branch s) is)
child_kept s (n ∷ ns) (suc k) x y lt is e = ap (λ (bs : List Branch). branch s n ∷ bs) (child_kept s ns k x y (omega arith) is e)

-- ---- the node around them

abbrev pub with_children : Branch → Nodes → Branch
with_children b children = record b { children = children }

pub around : (s : List ℕ) (n : Node) (x : Node-F Node) (children : Nodes) → x.name.items ≡ (out-Node n).name.items
    → x.properties.items ≡ (out-Node n).properties.items → joined (branches s x.children.items) ≡ children
    → branch s (roll-Node x) ≡ with_children (branch s n) children
around s n x children e f g =
    branch_roll s x ∙ rw (e, f, g) refl ∙ ap (λ (b : Branch). with_children b children) (sym (branch_out s n))

-- ---- at the index that was found

pub value_put_found : (s name v : List ℕ) (xs : List Property) (at : ℕ) (x y : Property) → Some at ≡ position_from (has_name s name) 0 xs
    → x ≡ get_or xs at x → property_data s y ≡ record { name = name_of s x.name; value = v }
    → map (property_data s) (set xs at y) ≡ with_value name v (map (property_data s) xs)
value_put_found s name v xs at x y e is made =
    let t = value_put_at s name v xs 0 at (sym e) in
    let same : t.0 ≡ at = omega (arith, t.1) in
    rw same at t.3 x y is made

pub value_pushed : (s name v : List ℕ) (xs ys : List Property) (y : Property) → None ≡ position_from (has_name s name) 0 xs → ys ≡ xs ++ y ∷ []
    → property_data s y ≡ record { name = name; value = v }
    → map (property_data s) ys ≡ with_value name v (map (property_data s) xs)
value_pushed s name v xs ys y e pushed made =
    ap (map (property_data s)) pushed ∙ map_push (property_data s) xs y ∙ ap (λ (w : PropertyData). map (property_data s) xs ++ w ∷ []) made
    ∙ sym (value_added s name v xs 0 (sym e))

pub edited_found : (s : List ℕ) (test : List ℕ → Bool) (edit : Branch → Branch) (new : Branch) (n : Node) (o : Node-F Node) (at : ℕ) (x y : Node)
    → o.name.items ≡ (out-Node n).name.items → o.properties.items ≡ (out-Node n).properties.items → o.children.items ≡ set (out-Node n).children.items at y
    → Some at ≡ position_from (passes test) 0 (out-Node n).children.items → x ≡ get_or (out-Node n).children.items at x → branch s y ≡ edit (branch s x)
    → branch s (roll-Node o) ≡ with_children (branch s n) (first_such test edit new (branch s n).children)
edited_found s test edit new n o at x y e f g found is made =
    let xs = (out-Node n).children.items in
    let t = child_edited_at s test edit new xs 0 at (sym found) in
    let same : t.0 ≡ at = omega (arith, t.1) in
    let children : joined (branches s (set xs at y)) ≡ first_such test edit new (joined (branches s xs)) = rw same at t.3 x y is made in
    let all : joined (branches s o.children.items) ≡ first_such test edit new (branch s n).children =
    ap (λ (ns : List Node). joined (branches s ns)) g ∙ children ∙ ap (λ (b : Branch). first_such test edit new b.children) (sym (branch_out s n)) in
    around s n o _ e f all

pub kept_found : (s : List ℕ) (n : Node) (o : Node-F Node) (at : ℕ) (x y : Node)
    → o.name.items ≡ (out-Node n).name.items → o.properties.items ≡ (out-Node n).properties.items → o.children.items ≡ set (out-Node n).children.items at y
    → at < length (out-Node n).children.items → x ≡ get_or (out-Node n).children.items at x → branch s y ≡ branch s x
    → branch s (roll-Node o) ≡ branch s n
kept_found s n o at x y e f g lt is made =
    let all : joined (branches s o.children.items) ≡ (branch s n).children =
    ap (λ (ns : List Node). joined (branches s ns)) g ∙ ap joined (child_kept s (out-Node n).children.items at x y lt is made)
    ∙ ap (λ (b : Branch). b.children) (sym (branch_out s n)) in
    around s n o _ e f all

pub edited_pushed : (s : List ℕ) (test : List ℕ → Bool) (edit : Branch → Branch) (new : Branch) (n child : Node) (o : Node-F Node)
    → o.name.items ≡ (out-Node n).name.items → o.properties.items ≡ (out-Node n).properties.items → o.children.items ≡ (out-Node n).children.items ++ child ∷ []
    → None ≡ position_from (passes test) 0 (out-Node n).children.items → branch s child ≡ new
    → branch s (roll-Node o) ≡ with_children (branch s n) (first_such test edit new (branch s n).children)
edited_pushed s test edit new n child o e f g missing made =
    child_step s n child o e f g
    ∙ ap (λ (b : Branch). with_children (branch s n) (followed (branch s n).children b)) made
    ∙ ap (λ (b : Branch). with_children (branch s n) (followed b.children new)) (branch_out s n)
    ∙ ap (λ (ks : Nodes). with_children (branch s n) ks) (sym (child_added s test edit new (out-Node n).children.items 0 (sym missing)))
    ∙ ap (λ (b : Branch). with_children (branch s n) (first_such test edit new b.children)) (sym (branch_out s n))

pub on_ok : {A E : Type 0} (r : Result A E) (P Q : Type 0) → (P → Q) → OnOk r P → OnOk r Q
on_ok (Ok x) P Q f h = f h
on_ok (Err e) P Q f h = h

pub on_err : {A E : Type 0} (r : Result A E) (P Q : Type 0) → (P → Q) → OnErr r P → OnErr r Q
on_err (Ok x) P Q f h = h
on_err (Err e) P Q f h = f h

-- Names that are looked up.
use Rattle.std.proofs.Common.{◌≡◌, ℕ, suc, ◌+◌, ◌<◌, Bool, true, false, cond, eqb, List, [], ◌∷◌, length, get_or, take, drop, Option, Some, None, refl, sym, ap}
use Rattle.std.proofs.Common.{◌∙◌, arith}
use Rattle.std.specs.Prelude.{option_and_then}
use Rattle.std.specs.List.{position_from}
use Rattle.std.specs.Str.{bytes_eq}
use Rattle.std.proofs.lemmas.List.{at_drop_more}
use Rattle.fdt_tree.specs.declared.node.Node.{Node}
use Rattle.fdt_tree.specs.declared.node.Node.TheViews.{out-Node}
use Rattle.fdt_tree.specs.Devicetree.{Branch, joined}
use Rattle.fdt_tree.specs.NodeViews.{branch, branches}
use Rattle.fdt_tree.specs.Lookup.{between_slashes, put_first, first_named, node_below}
use Rattle.fdt_tree.proofs.OpenNodes.{branch_out}

-- ---- among the children

at_item : (strings name : List ℕ) (items : List Node) (i : ℕ) (n : Node) (b : Bool) → i < length items → n ≡ get_or items i n
    → bytes_eq (out-Node n).name.items name ≡ b
    → first_named name (joined (branches strings (drop i items)))
    ≡ cond b (Some (branch strings n)) (first_named name (joined (branches strings (drop (i + 1) items))))
at_item strings name items i n b lt is e =
    let rest = first_named name (joined (branches strings (drop (i + 1) items))) in
    let test : bytes_eq (branch strings n).name name ≡ b = ap (λ (x : Branch). bytes_eq x.name name) (branch_out strings n) ∙ e in
    at_drop_more (λ (ns : List Node). first_named name (joined (branches strings ns))) items i n lt
    ∙ ap (λ (x : Node). first_named name (joined (branches strings (x ∷ drop (i + 1) items)))) (sym is)
    ∙ ap (λ (t : Bool). cond t (Some (branch strings n)) rest) test

pub found : (strings name : List ℕ) (node n : Node) (items : List Node) (i : ℕ) → items ≡ (out-Node node).children.items → i < length items
    → n ≡ get_or items i n → bytes_eq (out-Node n).name.items name ≡ true
    → first_named name (joined (branches strings (drop i items))) ≡ first_named name (joined (branches strings items))
    → Some (branch strings n) ≡ first_named name (branch strings node).children
found strings name node n items i of_node lt is e so_far =
    sym (at_item strings name items i n true lt is e) ∙ so_far ∙ ap (λ (ns : List Node). first_named name (joined (branches strings ns))) of_node
    ∙ ap (λ (x : Branch). first_named name x.children) (sym (branch_out strings node))

pub passed : (strings name : List ℕ) (n : Node) (items : List Node) (i : ℕ) (total : Option Branch) → i < length items → n ≡ get_or items i n
    → bytes_eq (out-Node n).name.items name ≡ false
    → first_named name (joined (branches strings (drop i items))) ≡ total → first_named name (joined (branches strings (drop (i + 1) items))) ≡ total
passed strings name n items i total lt is e so_far = sym (at_item strings name items i n false lt is e) ∙ so_far

-- ---- on the way

abbrev slash : ℕ → Bool
slash c = eqb c 47

one_name : (path : List ℕ) (i : ℕ) → position_from slash i path ≡ None → between_slashes path ≡ path ∷ []
one_name [] i e = refl
one_name (c ∷ cs) i e = go (slash c) e (one_name cs (i + 1))
  where
    go : (b : Bool) → cond b (Some i) (position_from slash (i + 1) cs) ≡ None → (position_from slash (i + 1) cs ≡ None → between_slashes cs ≡ cs ∷ [])
        → cond b ([] ∷ between_slashes cs) (put_first c (between_slashes cs)) ≡ (c ∷ cs) ∷ []
    go true q ih = absurd cc
    go false q ih = ap (put_first c) (ih q)

abbrev Split : List ℕ → ℕ → ℕ → Type 0
Split path i at = (k : ℕ) × (at ≡ i + k) × (between_slashes path ≡ take k path ∷ between_slashes (drop (suc k) path))

split_name : (path : List ℕ) (i at : ℕ) → position_from slash i path ≡ Some at → Split path i at
split_name [] i at e = absurd cc
split_name (c ∷ cs) i at e = go (slash c) refl e (split_name cs (i + 1) at)
  where
    go : (b : Bool) → slash c ≡ b → cond b (Some i) (position_from slash (i + 1) cs) ≡ Some at
        → (position_from slash (i + 1) cs ≡ Some at → Split cs (i + 1) at) → Split (c ∷ cs) i at
    go true h q ih = let here : i ≡ at = cc in (0, omega arith, rw h refl)
    go false h q ih = let t = ih q in (suc t.0, omega (arith, t.1), rw h (ap (put_first c) t.2))

pub last_name : (path : List ℕ) (b : Branch) → None ≡ position_from slash 0 path → node_below (between_slashes path) b ≡ first_named path b.children
last_name path b e = ap (λ (ns : List (List ℕ)). node_below ns b) (one_name path 0 (sym e)) ∙ same (first_named path b.children)
  where
    same : (o : Option Branch) → option_and_then (node_below []) o ≡ o
    same None = refl
    same (Some x) = refl

pub next_name : (path : List ℕ) (b : Branch) (at : ℕ) → Some at ≡ position_from slash 0 path
    → node_below (between_slashes path) b ≡ option_and_then (node_below (between_slashes (drop (at + 1) path))) (first_named (take at path) b.children)
next_name path b at e =
    let t = split_name path 0 at (sym e) in
    let same : t.0 ≡ at = omega (arith, t.1) in
    let one : suc at ≡ at + 1 = omega arith in
    ap (λ (ns : List (List ℕ)). node_below ns b) t.2
    ∙ ap (λ (m : ℕ). option_and_then (node_below (between_slashes (drop (suc m) path))) (first_named (take m path) b.children)) same
    ∙ ap (λ (m : ℕ). option_and_then (node_below (between_slashes (drop m path))) (first_named (take at path) b.children)) one

pub no_slash : (path : List ℕ) → None ≡ position_from slash 0 path → between_slashes path ≡ path ∷ []
no_slash path e = one_name path 0 (sym e)

pub first_slash : (path : List ℕ) (at : ℕ) → Some at ≡ position_from slash 0 path → between_slashes path ≡ take at path ∷ between_slashes (drop (at + 1) path)
first_slash path at e =
    let t = split_name path 0 at (sym e) in
    let same : t.0 ≡ at = omega (arith, t.1) in
    let one : suc at ≡ at + 1 = omega arith in
    t.2 ∙ ap (λ (m : ℕ). take m path ∷ between_slashes (drop (suc m) path)) same ∙ ap (λ (m : ℕ). take at path ∷ between_slashes (drop m path)) one

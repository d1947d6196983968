-- The tree of tokens is the one whose tokens they are.
use Rattle.std.proofs.Common.{◌≡◌, ℕ, List, [], ◌∷◌, ◌++◌, map, Result, Ok, Err, refl, ap, ◌∙◌, append_assoc, sym, subst}
use Rattle.std.proofs.lemmas.List.{append-nil}
use Rattle.fdt_header.specs.declared.fault.FdtFault.{FdtFault}
use Rattle.fdt_tree.specs.Devicetree.{Devicetree, PropertyData, Nodes, none, node, Token, begin_node, property, end_node, tokens, Root, root_tokens}
use Rattle.refusal.specs.Answer.{◌>>=◌}
use Rattle.fdt_tree.specs.Reading.{Spells, Parts, parts_of, parts_at}
use Rattle.fdt_tree.specs.TreeAt.{Pending, empty_pending, with_token, pending_of, root_at, tree_of, tree_at}
use Rattle.fdt_tree.proofs.SpellingOfScan.{IsBytes}
use Rattle.fdt_tree.proofs.UnrefusedIsSpelled.{found_spelled}
use Rattle.fdt_tree.proofs.ReadIsSpelled.{spelled_reads, reads_spelled}

-- properties in front
after_properties : (es : List PropertyData) (ts : List Token) (b : Pending) (around : List Pending) → pending_of ts ≡ b ∷ around → b.properties ≡ []
    → pending_of (map property es ++ ts) ≡ record { properties = es; children = b.children } ∷ around
after_properties [] ts b around e none_yet = e ∙ ap (λ (xs : List PropertyData). record { properties = xs; children = b.children } ∷ around) none_yet
after_properties (x ∷ es) ts b around e none_yet = ap (with_token (property x)) (after_properties es ts b around e none_yet)

-- nodes in front, where no child is yet
behind_nodes : (f : Nodes) (ts : List Token) (es : List PropertyData) (around : List Pending)
    → pending_of ts ≡ record { properties = es; children = none } ∷ around → pending_of (tokens f ++ ts) ≡ record { properties = es; children = f } ∷ around
behind_nodes none ts es around e = e
behind_nodes (node name properties children next) ts es around e =
    let after : pending_of (end_node ∷ (tokens next ++ ts)) ≡ empty_pending ∷ record { properties = es; children = next } ∷ around =
    ap (with_token end_node) (behind_nodes next ts es around e) in
    let inner : pending_of (tokens children ++ (end_node ∷ (tokens next ++ ts))) ≡ record {
      properties = [];
      children = children;
    } ∷ record { properties = es; children = next } ∷ around = behind_nodes children (end_node ∷ (tokens next ++ ts)) [] _ after in
    let whole =
    after_properties properties (tokens children ++ (end_node ∷ (tokens next ++ ts))) (record { properties = []; children = children }) _ inner refl in
    ap pending_of (regroup name (map property properties) (tokens children) (tokens next) ts) ∙ ap (with_token (begin_node name)) whole
  where
    regroup : (name : List ℕ) (a b c d : List Token)
        → (begin_node name ∷ (a ++ (b ++ (end_node ∷ c)))) ++ d ≡ begin_node name ∷ (a ++ (b ++ (end_node ∷ (c ++ d))))
    regroup name a b c d =
        ap (λ (us : List Token). begin_node name ∷ us)
        (append_assoc a (b ++ (end_node ∷ c)) d ∙ ap (λ (us : List Token). a ++ us) (append_assoc b (end_node ∷ c) d))

root_again : (r : Root) → root_at (pending_of (root_tokens r)) ≡ r
root_again r = ap root_at (ap pending_of (sym (append-nil (root_tokens r))) ∙ behind_nodes (node [] r.properties r.children none) [] [] [] refl)

pub tree_again : (t : Devicetree) → tree_of (parts_of t) ≡ t
tree_again t = ap (λ (r : Root). record { reservations = t.reservations; boot_cpu = t.boot_cpu; root = r }) (root_again t.root)

-- what reading finds of a tree is the tree
pub parts_tree : (bytes : List ℕ) (t : Devicetree) → parts_at bytes ≡ Ok (parts_of t) → tree_at bytes ≡ Ok t
parts_tree bytes t e = rw e (ap (λ (u : Devicetree). Ok u) (tree_again t))

pub spelled_tree : (bytes : List ℕ) (t : Devicetree) → Spells bytes t → tree_at bytes ≡ Ok t
spelled_tree bytes t s = parts_tree bytes t (spelled_reads bytes t s)

same_ok : {X : Type 0} (x y : X) → (let r : Result X FdtFault = Ok x in r) ≡ Ok y → x ≡ y
same_ok x y h = cc

pub tree_spelled : (bytes : List ℕ) (t : Devicetree) → IsBytes bytes → tree_at bytes ≡ Ok t → Spells bytes t
tree_spelled bytes t fits e = go (parts_at bytes) refl e
  where
    go : (r : Result Parts FdtFault) → parts_at bytes ≡ r → (r >>= λ p. Ok (tree_of p)) ≡ Ok t → Spells bytes t
    go (Err f) is h = absurd cc
    go (Ok found) is h =
        let u = found_spelled bytes found fits is in
        let same : u.0 ≡ t = same_ok u.0 t (sym (parts_tree bytes u.0 u.1) ∙ e) in
        subst (λ (v : Devicetree). Spells bytes v) same (reads_spelled bytes u.0 fits u.1)

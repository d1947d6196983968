-- Tokens that are accepted are those of one legal root; and tokens determine the tree.
use Rattle.std.proofs.Common.{◌≡◌, ℕ, ◌+◌, ◌-◌, ◌<◌, true, false, eqb, List, [], ◌∷◌, ◌++◌, map, refl, sym, ap, subst, ◌∙◌, append_assoc, arith}
use Rattle.std.specs.Prelude.{IsTrue}
use Rattle.std.proofs.lemmas.Bool.{ne_eqb, eqb-true}
use Rattle.std.proofs.lemmas.List.{nil_from_length}
use Rattle.fdt_tree.specs.Devicetree.{PropertyData, Nodes, none, node, Token, begin_node, property, end_node, nop, finish, tokens, Root}
use Rattle.fdt_tree.specs.declared.reading.place.Place.{Place}
use Rattle.fdt_tree.specs.Scanning.{start, legal_at}
use Rattle.fdt_tree.specs.Names.{legal, AreLegal, IsLegal}
use Rattle.fdt_tree.proofs.AcceptedTokens.{Accepts, behind}

properties_legal : (es : List PropertyData) (p : Place) (more : List Token) → Accepts p (map property es ++ more) → AreLegal es × Accepts p more
properties_legal [] p more ok = (tt, ok)
properties_legal (e ∷ es) p more ok = let r = properties_legal es p more ok.1 in ((ok.0.2, r.0), r.1)

was_legal : (n : List ℕ) (p : Place) → 0 < p.depth → IsTrue (legal_at p n) → IsTrue (legal n)
was_legal n p h l = let z : eqb p.depth 0 ≡ false = ne_eqb p.depth 0 (λ e. omega arith) in rw z at l

merge : (next : Nodes) (d : ℕ) (more : List Token) → Accepts (behind (record { depth = d; late = true }) next) more
    → Accepts (record { depth = d; late = true }) more
merge none d more r = r
merge (node a b c e) d more r = r

shut : (children : Nodes) (d : ℕ) (ts : List Token) → Accepts (behind (record { depth = d; late = false }) children) (end_node ∷ ts)
    → Accepts (record { depth = d - 1; late = true }) ts
shut none d ts r = r.1
shut (node a b c e) d ts r = r.1

pub nodes_legal : (f : Nodes) (p : Place) (rest : List Token) → 0 < p.depth → Accepts p (tokens f ++ rest) → IsLegal p.depth f × Accepts (behind p f) rest
nodes_legal none p rest h ok = (tt, ok)
nodes_legal (node n es children next) p rest h ok =
    let more = rest in
    let inner : Place = record { depth = p.depth + 1; late = false } in
    let ended : Place = record { depth = p.depth; late = true } in
    let shape : (map property es ++ (tokens children ++ (end_node ∷ tokens next))) ++ more
    ≡ map property es ++ (tokens children ++ (end_node ∷ (tokens next ++ more)))
    = append_assoc (map property es) (tokens children ++ (end_node ∷ tokens next)) more
    ∙ ap (λ (ts : List Token). map property es ++ ts) (append_assoc (tokens children) (end_node ∷ tokens next) more) in
    let a = properties_legal es inner (tokens children ++ (end_node ∷ (tokens next ++ more))) (subst (λ (ts : List Token). Accepts inner ts) shape ok.1) in
    let b = nodes_legal children inner (end_node ∷ (tokens next ++ more)) (omega arith) a.1 in
    let back : p.depth + 1 - 1 ≡ p.depth = omega arith in
    let c = shut children (p.depth + 1) (tokens next ++ more) b.1 in
    let d : Accepts ended (tokens next ++ more) = subst (λ (m : ℕ). Accepts (record { depth = m; late = true }) (tokens next ++ more)) back c in
    let last = nodes_legal next ended more h d in
    ((ok.0.1, was_legal n p h ok.0.0, a.0, b.0, last.0), merge next p.depth more last.1)

-- the tokens up to END are those of a root with legal names and depths
pub record IsRoot (f : Nodes) : Type 0 where
  pub root : Root
  pub same : f ≡ node [] root.properties root.children none
  pub properties : AreLegal root.properties
  pub children : IsLegal 1 root.children

pub root_only : (f : Nodes) → Accepts start (tokens f) → IsRoot f
root_only none ok = let e : false ≡ true = ok.1 in absurd cc
root_only (node n es children next) ok =
    let outside : Place = record { depth = 1; late = false } in
    let shape : map property es ++ (tokens children ++ (end_node ∷ tokens next)) ≡ map property es ++ (tokens children ++ (end_node ∷ tokens next)) = refl in
    let a = properties_legal es outside (tokens children ++ (end_node ∷ tokens next)) ok.1 in
    let b = nodes_legal children outside (end_node ∷ tokens next) (omega arith) a.1 in
    let c = shut children 1 (tokens next) b.1 in
    let no_name : n ≡ [] = nil_from_length n (eqb-true _ _ ok.0.0) in
    let alone : next ≡ none = no_more next c in
    record { root = record { properties = es; children = children }; same = rw (no_name, alone) refl; properties = a.0; children = b.0 }
  where
    no_more : (next : Nodes) → Accepts (record { depth = 0; late = true }) (tokens next) → next ≡ none
    no_more none r = refl
    no_more (node a b c e) r = let q : true ≡ false = r.0.2 refl in absurd cc

-- the tokens of nodes determine them, whatever follows that is no begin token
abbrev pub Stops : List Token → Type 0
Stops [] = Unit {0}
Stops (begin_node n ∷ ts) = ⊥
Stops (property e ∷ ts) = ⊥
Stops (end_node ∷ ts) = Unit {0}
Stops (nop ∷ ts) = Unit {0}
Stops (finish ∷ ts) = Unit {0}

abbrev pub NoProperty : List Token → Type 0
NoProperty [] = Unit {0}
NoProperty (begin_node n ∷ ts) = Unit {0}
NoProperty (property e ∷ ts) = ⊥
NoProperty (end_node ∷ ts) = Unit {0}
NoProperty (nop ∷ ts) = Unit {0}
NoProperty (finish ∷ ts) = Unit {0}

same_properties : (es fs : List PropertyData) (x y : List Token) → NoProperty x → NoProperty y → map property es ++ x ≡ map property fs ++ y
    → (es ≡ fs) × (x ≡ y)
same_properties [] [] x y p q e = (refl, e)
same_properties [] (f ∷ fs) x y p q e = absurd (subst NoProperty e p)
same_properties (f ∷ es) [] x y p q e = absurd (subst NoProperty (sym e) q)
same_properties (a ∷ es) (b ∷ fs) x y p q e =
    let heads : property a ≡ property b = cc in
    let same : a ≡ b = cc in
    let tails : map property es ++ x ≡ map property fs ++ y = cc in
    let r = same_properties es fs x y p q tails in
    (rw (same, r.0) refl, r.1)

no_property : (f : Nodes) (x : List Token) → NoProperty (tokens f ++ (end_node ∷ x))
no_property none x = tt
no_property (node a b c d) x = tt

pub same_nodes : (f g : Nodes) (x y : List Token) → Stops x → Stops y → tokens f ++ x ≡ tokens g ++ y → (f ≡ g) × (x ≡ y)
same_nodes none none x y p q e = (refl, e)
same_nodes none (node n es k next) x y p q e = absurd (subst Stops e p)
same_nodes (node n es k next) none x y p q e = absurd (subst Stops (sym e) q)
same_nodes (node n es k next) (node m fs l after_it) x y p q e =
    let heads : begin_node n ≡ begin_node m = cc in
    let name : n ≡ m = cc in
    let bodies : (map property es ++ (tokens k ++ (end_node ∷ tokens next))) ++ x ≡ (map property fs ++ (tokens l ++ (end_node ∷ tokens after_it))) ++ y = cc in
    let grouped = sym (group es k next x) ∙ bodies ∙ group fs l after_it y in
    let r =
    same_properties es fs (tokens k ++ (end_node ∷ (tokens next ++ x))) (tokens l ++ (end_node ∷ (tokens after_it ++ y)))
    (no_property k (tokens next ++ x)) (no_property l (tokens after_it ++ y)) grouped in
    let inner = same_nodes k l (end_node ∷ (tokens next ++ x)) (end_node ∷ (tokens after_it ++ y)) tt tt r.1 in
    let tails : tokens next ++ x ≡ tokens after_it ++ y = cc (inner.1) in
    let outer = same_nodes next after_it x y p q tails in
    (rw (name, r.0, inner.0, outer.0) refl, outer.1)
  where
    group : (es : List PropertyData) (k next : Nodes) (x : List Token)
        → (map property es ++ (tokens k ++ (end_node ∷ tokens next))) ++ x ≡ map property es ++ (tokens k ++ (end_node ∷ (tokens next ++ x)))
    group es k next x =
        append_assoc (map property es) (tokens k ++ (end_node ∷ tokens next)) x
        ∙ ap (λ (ts : List Token). map property es ++ ts) (append_assoc (tokens k) (end_node ∷ tokens next) x)

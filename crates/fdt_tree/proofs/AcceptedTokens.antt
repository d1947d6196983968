-- Where each token is allowed, and that the tokens of a tree are allowed where they are.
use Rattle.std.proofs.Common.{◌≡◌, ℕ, ◌+◌, ◌-◌, ◌<◌, true, false, List, [], ◌∷◌, ◌++◌, map, refl, sym, ap, subst, ◌∙◌, append_assoc, arith, eqb}
use Rattle.std.proofs.lemmas.Bool.{ne_eqb}
use Rattle.std.specs.Prelude.{IsTrue}
use Rattle.fdt_tree.specs.Devicetree.{PropertyData, Nodes, none, node, Token, begin_node, property, end_node, nop, finish, tokens}
use Rattle.fdt_tree.specs.declared.reading.place.Place.{Place}
use Rattle.fdt_tree.specs.Scanning.{after, legal_at}
use Rattle.fdt_tree.specs.Names.{legal, AreLegal, IsLegal}

abbrev pub Allowed : Place → Token → Type 0
Allowed p (begin_node n) = IsTrue (legal_at p n) × (p.depth < 64) × (p.depth ≡ 0 → p.late ≡ false)
Allowed p (property e) = (0 < p.depth) × (p.late ≡ false) × IsTrue (legal e.name)
Allowed p end_node = 0 < p.depth
Allowed p nop = Unit {0}
Allowed p finish = ⊥

-- the tokens may be at this place, and the root has ended after them
abbrev pub Accepts : Place → List Token → Type 0
Accepts p [] = (p.depth ≡ 0) × (p.late ≡ true)
Accepts p (t ∷ ts) = Allowed p t × Accepts (after p t) ts

abbrev pub behind : Place → Nodes → Place
behind p none = p
behind p (node n es children next) = record { depth = p.depth; late = true }

pub properties_accept : (es : List PropertyData) (d : ℕ) (more : List Token) → 0 < d → AreLegal es → Accepts (record { depth = d; late = false }) more
    → Accepts (record { depth = d; late = false }) (map property es ++ more)
properties_accept [] d more h legal_es rest = rest
properties_accept (e ∷ es) d more h legal_es rest = ((h, refl, legal_es.0), properties_accept es d more h legal_es.1 rest)

inner_legal : (n : List ℕ) (p : Place) → 0 < p.depth → IsTrue (legal n) → IsTrue (legal_at p n)
inner_legal n p h l = let z : eqb p.depth 0 ≡ false = ne_eqb p.depth 0 (λ e. omega arith) in rw z l

pub nodes_accept : (f : Nodes) (p : Place) (more : List Token) → 0 < p.depth → IsLegal p.depth f → Accepts (behind p f) more → Accepts p (tokens f ++ more)
nodes_accept none p more h legal_f rest = rest
nodes_accept (node n es children next) p more h legal_f rest =
    let d = p.depth + 1 in
    let inner : Place = record { depth = d; late = false } in
    let ended : Place = record { depth = p.depth; late = true } in
    let last : Accepts ended (tokens next ++ more) = nodes_accept next ended more h legal_f.4 (settle next rest) in
    let back : d - 1 ≡ p.depth = omega arith in
    let closing : Accepts (behind inner children) (end_node ∷ (tokens next ++ more)) = close children d (tokens next ++ more) (omega arith) (rw back last) in
    let children_in : Accepts inner (tokens children ++ (end_node ∷ (tokens next ++ more))) =
    nodes_accept children inner (end_node ∷ (tokens next ++ more)) (omega arith) legal_f.3 closing in
    let es_in = properties_accept es d (tokens children ++ (end_node ∷ (tokens next ++ more))) (omega arith) legal_f.2 children_in in
    let shape : map property es ++ (tokens children ++ (end_node ∷ (tokens next ++ more)))
    ≡ (map property es ++ (tokens children ++ (end_node ∷ tokens next))) ++ more
    = ap (λ (ts : List Token). map property es ++ ts) (sym (append_assoc (tokens children) (end_node ∷ tokens next) more))
    ∙ sym (append_assoc (map property es) (tokens children ++ (end_node ∷ tokens next)) more) in
    ((inner_legal n p h legal_f.1, legal_f.0, λ e. absurd (omega arith)), subst (λ (ts : List Token). Accepts inner ts) shape es_in)
  where
    settle : (next : Nodes) → Accepts (record { depth = p.depth; late = true }) more → Accepts (behind (record { depth = p.depth; late = true }) next) more
    settle none r = r
    settle (node a b c d) r = r

    close : (children : Nodes) (d : ℕ) (ts : List Token) → 0 < d → Accepts (record { depth = d - 1; late = true }) ts
        → Accepts (behind (record { depth = d; late = false }) children) (end_node ∷ ts)
    close none d ts h r = (h, r)
    close (node a b c e) d ts h r = (h, r)

-- At END the reader holds the root.
use Rattle.std.proofs.Common.{◌≡◌, ℕ, List, [], ◌∷◌, ◌++◌, length, map, Result, Ok, refl, ap, subst, ◌∙◌, arith}
use Rattle.std.proofs.lemmas.List.{nil_from_length}
use Rattle.refusal.proofs.AnswersInTurn.{bind-ok}
use Rattle.fdt_header.specs.declared.fault.FdtFault.{FdtFault}
use Rattle.fdt_tree.specs.declared.node.Node.{Node}
use Rattle.fdt_tree.specs.declared.node.Node.TheViews.{out-Node}
use Rattle.fdt_tree.specs.Devicetree.{PropertyData, Nodes, none, node, Branch, joined, Token, begin_node, property, tokens, root_tokens}
use Rattle.fdt_tree.specs.inside.OpenNodes.{opened, all_opened}
use Rattle.fdt_tree.specs.NodeViews.{branch, branches, root_of}
use Rattle.refusal.specs.Answer.{with_front}
use Rattle.fdt_tree.specs.Scanning.{start, scan}
use Rattle.fdt_tree.proofs.AcceptedTokens.{Accepts}
use Rattle.fdt_tree.proofs.SpellingOfScan.{IsBytes, scan_takes}
use Rattle.fdt_tree.proofs.SpellingOfToken.{takes_tokens, takes_end}
use Rattle.fdt_tree.proofs.TokensOfOneTree.{root_only}
use Rattle.fdt_tree.proofs.OpenNodes.{branch_out}

accepted : (strings block : List ℕ) (ts : List Token) → IsBytes block → scan strings (length block) start block ≡ Ok ts → Accepts start ts
accepted strings block ts fits e = (scan_takes strings (takes_tokens strings) (takes_end strings) (length block) start block ts fits e).accepted

bare : (es : List PropertyData) (f : Nodes) → Accepts start (map property es ++ tokens f) → map property es ++ tokens f ≡ tokens f
bare [] f ok = refl
bare (e ∷ es) f ok = absurd (omega (arith, ok.0.0))

pub at_end : (strings block : List ℕ) (outer : List Node) (cur : Node) → IsBytes block → length outer ≡ 0
    → with_front (begin_node [] ∷ []) (scan strings (length block) start block) ≡ Ok (all_opened (branches strings outer) ++ opened (branch strings cur))
    → scan strings (length block) start block ≡ Ok (tokens (joined (branches strings (out-Node cur).children.items)))
at_end strings block outer cur fits none_open e =
    let nothing : outer ≡ [] = nil_from_length outer none_open in
    let b =
    bind-ok (scan strings (length block) start block) (λ ts. Ok ((begin_node [] ∷ []) ++ ts)) (opened (branch strings cur))
    (e ∙ ap (λ (ns : List Node). Ok (all_opened (branches strings ns) ++ opened (branch strings cur))) nothing) in
    let body = map property (branch strings cur).properties ++ tokens (branch strings cur).children in
    let same : b.0 ≡ body = tail_is b.0 body (branch strings cur).name b.2 in
    let ok : Accepts start body = subst (λ (ts : List Token). Accepts start ts) same (accepted strings block b.0 fits b.1) in
    b.1 ∙ ap (λ (ts : List Token). Ok ts)
    (same ∙ bare (branch strings cur).properties (branch strings cur).children ok ∙ ap (λ (x : Branch). tokens x.children) (branch_out strings cur))
  where
    tail_is : (ts us : List Token) (name : List ℕ) → (let r : Result (List Token) FdtFault = Ok (begin_node [] ∷ ts) in r) ≡ Ok (begin_node name ∷ us) → ts ≡ us
    tail_is ts us name q = cc

-- where nodes are a root alone, the last of them is that root
only_child : (strings : List ℕ) (rest : List Node) (root : Node) (es : List PropertyData) (k : Nodes)
    → joined (branches strings (rest ++ root ∷ [])) ≡ node [] es k none
    → ((branch strings root).name ≡ []) × (tokens (joined (branches strings (rest ++ root ∷ []))) ≡ root_tokens (root_of strings root))
only_child strings [] root es k e =
    let name : (branch strings root).name ≡ [] = cc in
    (name, ap (λ (n : List ℕ). tokens (node n (branch strings root).properties (branch strings root).children none)) name)
only_child strings (a ∷ []) root es k e =
    absurd (let q : node (branch strings root).name (branch strings root).properties (branch strings root).children none ≡ none = cc in let z : ⊥ = cc in z)
only_child strings (a ∷ (b ∷ rest)) root es k e =
    absurd (let q : node (branch strings b).name (branch strings b).properties (branch strings b).children
    (joined (branches strings (rest ++ root ∷ []))) ≡ none = cc in let z : ⊥ = cc in z)

pub root_is : (strings block : List ℕ) (items rest : List Node) (root : Node) → IsBytes block → items ≡ rest ++ root ∷ []
    → scan strings (length block) start block ≡ Ok (tokens (joined (branches strings items)))
    → scan strings (length block) start block ≡ Ok (root_tokens (root_of strings root))
root_is strings block items rest root fits parts e =
    let f = joined (branches strings (rest ++ root ∷ [])) in
    let g : scan strings (length block) start block ≡ Ok (tokens f) = e ∙ ap (λ (ns : List Node). Ok (tokens (joined (branches strings ns)))) parts in
    let r = root_only f (accepted strings block (tokens f) fits g) in
    g ∙ ap (λ (ts : List Token). Ok ts) (only_child strings rest root r.root.properties r.root.children r.same).1

pub root_named : (strings block : List ℕ) (items rest : List Node) (root : Node) → IsBytes block → items ≡ rest ++ root ∷ []
    → scan strings (length block) start block ≡ Ok (tokens (joined (branches strings items))) → (branch strings root).name ≡ []
root_named strings block items rest root fits parts e =
    let f = joined (branches strings (rest ++ root ∷ [])) in
    let g : scan strings (length block) start block ≡ Ok (tokens f) = e ∙ ap (λ (ns : List Node). Ok (tokens (joined (branches strings ns)))) parts in
    let r = root_only f (accepted strings block (tokens f) fits g) in
    (only_child strings rest root r.root.properties r.root.children r.same).0

pub root_there : (strings block : List ℕ) (items : List Node) (A : Type 0) → IsBytes block → length items ≡ 0
    → scan strings (length block) start block ≡ Ok (tokens (joined (branches strings items))) → A
root_there strings block items A fits len e =
    let nothing : items ≡ [] = nil_from_length items len in
    let g : scan strings (length block) start block ≡ Ok (tokens none) = e ∙ ap (λ (ns : List Node). Ok (tokens (joined (branches strings ns)))) nothing in
    let r = root_only none (accepted strings block (tokens none) fits g) in
    absurd (let q : none ≡ node [] r.root.properties r.root.children none = r.same in let z : ⊥ = cc in z)

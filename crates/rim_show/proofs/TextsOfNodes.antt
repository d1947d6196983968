-- The texts of nodes beside one another, and of one more.
use Rattle.std.proofs.Common.{◌≡◌, ℕ, ◌+◌, ◌<◌, List, [], ◌∷◌, ◌++◌, length, map, take, get_or, refl, ap, sym, ◌∙◌, append_assoc, ◌≤◌, codes}
use Rattle.std.proofs.lemmas.List.{append-nil, map-append, take_all, take_more}
use Rattle.std.proofs.Math.Seq.{take-append_seam}
use Rattle.std.specs.List.{flat_map}
use Rattle.fdt_tree.specs.Devicetree.{Branch, joined, none}
use Rattle.fdt_tree.specs.NodeViews.{branch, branches, property_data}
use Rattle.fdt_tree.specs.declared.node.Node.TheViews.{out-Node}
use Rattle.fdt_tree.proofs.OpenNodes.{branch_out}
use Rattle.fdt_tree.specs.declared.node.Node.{Node}
use Rattle.rim_show.specs.ShownDevicetree.{inner_text, node_line, nodes_text, path_below, property_line}

-- a node as a child of a path
abbrev pub child_text : List ℕ → Branch → List ℕ
child_text path b = node_line (path_below path b.name) ++ inner_text (path_below path b.name) b

first_text : (path : List ℕ) (b : Branch) (bs : List Branch) → nodes_text path (joined (b ∷ bs)) ≡ child_text path b ++ nodes_text path (joined bs)
unfolding nodes_text
first_text path b bs =
    ap (λ t. t ++ nodes_text path (joined bs)) (append_assoc (node_line (path_below path b.name)) (flat_map property_line b.properties) (nodes_text (path_below path b.name) b.children))

no_text : (path : List ℕ) → nodes_text path none ≡ []
unfolding nodes_text
no_text path = refl

pub none_yet : (path text : List ℕ) → text ≡ text ++ nodes_text path none
none_yet path text = sym (ap (λ t. text ++ t) (no_text path) ∙ append-nil text)

one_more : (path : List ℕ) (bs : List Branch) (b : Branch) → nodes_text path (joined (bs ++ b ∷ [])) ≡ nodes_text path (joined bs) ++ child_text path b
one_more path [] b = first_text path b [] ∙ ap (λ t. child_text path b ++ t) (no_text path) ∙ append-nil (child_text path b) ∙ ap (λ t. t ++ child_text path b) (sym (no_text path))
one_more path (a ∷ bs) b =
    first_text path a (bs ++ b ∷ []) ∙ ap (λ t. child_text path a ++ t) (one_more path bs b)
    ∙ sym (append_assoc (child_text path a) (nodes_text path (joined bs)) (child_text path b)) ∙ ap (λ t. t ++ child_text path b) (sym (first_text path a bs))

-- the step of a loop over children
pub child_added : (path strings text : List ℕ) (ns : List Node) (i : ℕ) (d : Node) → i < length ns
    → (text ++ nodes_text path (joined (branches strings (take i ns)))) ++ child_text path (branch strings (get_or ns i d))
    ≡ text ++ nodes_text path (joined (branches strings (take (i + 1) ns)))
child_added path strings text ns i d h =
    append_assoc text (nodes_text path (joined (branches strings (take i ns)))) (child_text path (branch strings (get_or ns i d)))
    ∙ ap (λ t. text ++ t) (sym (one_more path (branches strings (take i ns)) (branch strings (get_or ns i d))))
    ∙ ap (λ bs. text ++ nodes_text path (joined bs)) (sym (ap (branches strings) (take_more ns i d h) ∙ map-append (branch strings) (take i ns) (get_or ns i d ∷ [])))

-- what the turn for one child adds
pub child_step : (path strings text told pathed inner stepped : List ℕ) (ns : List Node) (i : ℕ) (n : Node) → i < length ns → n ≡ get_or ns i n
    → stepped ≡ path_below path (out-Node n).name.items
    → told ≡ text ++ nodes_text path (joined (branches strings (take i ns)))
    → pathed ≡ told ++ node_line stepped → inner ≡ pathed ++ inner_text stepped (branch strings n)
    → inner ≡ text ++ nodes_text path (joined (branches strings (take (i + 1) ns)))
child_step path strings text told pathed inner stepped ns i n h at step so_far line rest =
    let b = branch strings n in
    let named : stepped ≡ path_below path b.name = step ∙ ap (λ (x : Branch). path_below path x.name) (sym (branch_out strings n)) in
    let whole : inner ≡ told ++ child_text path b =
    rest ∙ ap (λ t. t ++ inner_text stepped b) line ∙ append_assoc told (node_line stepped) (inner_text stepped b)
    ∙ ap (λ p. told ++ (node_line p ++ inner_text p b)) named in
    whole ∙ ap (λ t. t ++ child_text path b) so_far
    ∙ ap (λ m. (text ++ nodes_text path (joined (branches strings (take i ns)))) ++ child_text path (branch strings m)) at
    ∙ child_added path strings text ns i n h

-- a path is cut back to the one above
pub cut_back : (above path stepped name : List ℕ) → stepped ≡ path_below path name → path ≡ above → take (length above) stepped ≡ above
cut_back above path stepped name step same =
    ap (take (length above)) (step ∙ ap (λ p. path_below p name) same ∙ append_assoc above (codes "/") name) ∙ take-append_seam above (codes "/" ++ name)

-- all children were visited
pub all_told : (path strings text props told : List ℕ) (ns : List Node) (i : ℕ) (n : Node) → length ns ≤ i → ns ≡ (out-Node n).children.items
    → props ≡ text ++ flat_map property_line (map (property_data strings) (out-Node n).properties.items)
    → told ≡ props ++ nodes_text path (joined (branches strings (take i ns)))
    → told ≡ text ++ inner_text path (branch strings n)
all_told path strings text props told ns i n done items first so_far =
    so_far ∙ ap (λ ms. props ++ nodes_text path (joined (branches strings ms))) (take_all i ns done ∙ items)
    ∙ ap (λ t. t ++ nodes_text path (joined (branches strings (out-Node n).children.items))) first
    ∙ append_assoc text _ _
    ∙ ap (λ (b : Branch). text ++ inner_text path b) (sym (branch_out strings n))

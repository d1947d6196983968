-- Tokens that are written one after another.
use Rattle.std.proofs.Common.{◌^◌, ◌≡◌, ℕ, ◌+◌, ◌*◌, ◌<◌, ◌≤◌, Bool, true, false, cond, List, [], ◌∷◌, ◌++◌, length, get_or, take, drop, refl, sym, ap, ◌∙◌}
use Rattle.std.proofs.Common.{append_assoc, append-nil, arith, subst}
use Rattle.std.proofs.lemmas.List.{length-append, take_more, take-append-drop, at_drop_more, take_all}
use Rattle.fdt_header.specs.declared.fault.FdtFault.{FdtFault}
use Rattle.fdt_tree.proofs.Faults.{more_than}
use Rattle.fdt_tree.specs.declared.node.Property.{Property}
use Rattle.fdt_tree.specs.declared.node.Node.{Node}
use Rattle.fdt_tree.specs.declared.node.Node.TheViews.{out-Node}
use Rattle.fdt_tree.specs.declared.writing.Output.{Output}
use Rattle.fdt_tree.specs.Devicetree.{Token, begin_node, property, end_node, nop, finish, Branch, joined, tokens}
use Rattle.fdt_tree.specs.NodeViews.{property_data, branch, branches}
use Rattle.fdt_tree.specs.Writing.{places_text, versions_text, reservations_text, file_text, structure_text, written, noted, is_among, names_after}
use Rattle.fdt_tree.specs.Writing.{strings_text, text_after}
use Rattle.fdt_tree.specs.inside.NameTables.{HasNames, TooMuch}
use Rattle.fdt_tree.specs.inside.OutputViews.{AreLengths, HasTokens, size_of, tokens_of_properties, tokens_of_nodes}
use Rattle.fdt_tree.specs.declared.writing.Lengths.{Lengths}
use Rattle.fdt_tree.specs.declared.tree.Reservation.{Reservation}
use Rattle.fdt_tree.specs.declared.tree.Contents.{Contents}
use Rattle.fdt_tree.specs.Wholeness.{tree_in}
use Rattle.fdt_tree.specs.NodeViews.{root_of}
use Rattle.fdt_tree.specs.Devicetree.{root_tokens, node}
use Rattle.std.specs.Int.{w32, to_be_bytes}
use Rattle.fdt_tree.proofs.NameTables.{strings_push}
use Rattle.fdt_tree.proofs.OpenNodes.{branch_out}

pub names_append : (names : List (List ℕ)) (ts us : List Token) → names_after names (ts ++ us) ≡ names_after (names_after names ts) us
names_append names [] us = refl
names_append names (begin_node n ∷ ts) us = names_append names ts us
names_append names (property e ∷ ts) us = names_append (noted names e.name) ts us
names_append names (end_node ∷ ts) us = names_append names ts us
names_append names (nop ∷ ts) us = names_append names ts us
names_append names (finish ∷ ts) us = names_append names ts us

module _ (us : List Token) where
  pub text_append : (names : List (List ℕ)) (ts : List Token) → text_after names (ts ++ us) ≡ text_after names ts ++ text_after (names_after names ts) us
  text_append names [] = refl
  text_append names (begin_node n ∷ ts) = simp (text_append names ts, append_assoc)
  text_append names (property e ∷ ts) = simp (text_append (noted names e.name) ts, append_assoc)
  text_append names (end_node ∷ ts) = simp (text_append names ts, append_assoc)
  text_append names (nop ∷ ts) = simp (text_append names ts, append_assoc)
  text_append names (finish ∷ ts) = simp (text_append names ts, append_assoc)

noted_grows : (names : List (List ℕ)) (name : List ℕ) → length (strings_text names) ≤ length (strings_text (noted names name))
noted_grows names name = go (is_among name names)
  where
    go : (b : Bool) → length (strings_text names) ≤ length (strings_text (cond b names (names ++ name ∷ [])))
    go true = omega arith
    go false = omega (arith, ap length (strings_push names name), length-append (strings_text names ++ name) (0 ∷ []), length-append (strings_text names) name)

pub names_grow : (names : List (List ℕ)) (ts : List Token) → length (strings_text names) ≤ length (strings_text (names_after names ts))
names_grow names [] = omega arith
names_grow names (begin_node n ∷ ts) = names_grow names ts
names_grow names (property e ∷ ts) = omega (arith, noted_grows names e.name, names_grow (noted names e.name) ts)
names_grow names (end_node ∷ ts) = names_grow names ts
names_grow names (nop ∷ ts) = names_grow names ts
names_grow names (finish ∷ ts) = names_grow names ts

-- ---- tokens after tokens

pub HasTokens_then : (strings : List ℕ) (a b c : Output) (names : List (List ℕ)) (ts us : List Token) → HasTokens strings a b names ts
    → HasTokens strings b c (names_after names ts) us → HasTokens strings a c names (ts ++ us)
HasTokens_then strings a b c names ts us h k = record {
  text = k.text ∙ ap (λ (x : List ℕ). x ++ text_after (names_after names ts) us) h.text
      ∙ append_assoc a.structure.items (text_after names ts) (text_after (names_after names ts) us)
      ∙ ap (λ (x : List ℕ). a.structure.items ++ x) (sym (text_append us names ts));
  known = subst (HasNames strings c.names) (sym (names_append names ts us)) k.known;
}

-- what is too much is so with tokens before it and after it
pub too_much_then : (e : FdtFault) (names : List (List ℕ)) (ts us vs : List Token) → TooMuch e (size_of (names_after names ts) us)
    → TooMuch e (size_of names (ts ++ (us ++ vs)))
too_much_then e names ts us vs h =
    let before = names_after names ts in
    let here = names_after before us in
    let all_names = ap (λ (ns : List (List ℕ)). length (strings_text ns)) (names_append names ts (us ++ vs) ∙ names_append before us vs) in
    let whole_text = ap length (text_append (us ++ vs) names ts) in
    let later_text = ap length (text_append vs before us) in
    let whole_length = length-append (text_after names ts) (text_after before (us ++ vs)) in
    let later_length = length-append (text_after before us) (text_after here vs) in
    let grown = names_grow here vs in
    more_than e _ _ (omega (arith, all_names, whole_text, later_text, whole_length, later_length, grown)) h

-- ---- one more property, or node

pub one_more_property : (strings : List ℕ) (ps : List Property) (i : ℕ) (p : Property) → i < length ps → p ≡ get_or ps i p
    → tokens_of_properties strings (take (i + 1) ps) ≡ tokens_of_properties strings (take i ps) ++ property (property_data strings p) ∷ []
one_more_property strings ps i p lt is =
    ap (tokens_of_properties strings) (take_more ps i p lt ∙ ap (λ (x : Property). take i ps ++ x ∷ []) (sym is)) ∙ push (take i ps)
  where
    push : (qs : List Property) → tokens_of_properties strings (qs ++ p ∷ []) ≡ tokens_of_properties strings qs ++ property (property_data strings p) ∷ []
    push [] = refl
    push (q ∷ qs) = ap (λ (x : List Token). property (property_data strings q) ∷ x) (push qs)

pub nodes_append : (bs cs : List Branch) → tokens (joined (bs ++ cs)) ≡ tokens (joined bs) ++ tokens (joined cs)
nodes_append [] cs = refl
nodes_append (b ∷ bs) cs = simp (nodes_append bs cs, append_assoc)

pub one_more_node : (strings : List ℕ) (ns : List Node) (i : ℕ) (n : Node) → i < length ns → n ≡ get_or ns i n
    → tokens_of_nodes strings (take (i + 1) ns) ≡ tokens_of_nodes strings (take i ns) ++ tokens_of_nodes strings (n ∷ [])
one_more_node strings ns i n lt is =
    ap (tokens_of_nodes strings) (take_more ns i n lt ∙ ap (λ (x : Node). take i ns ++ x ∷ []) (sym is)) ∙ push (take i ns)
  where
    branches_push : (ms : List Node) → branches strings (ms ++ n ∷ []) ≡ branches strings ms ++ branches strings (n ∷ [])
    branches_push [] = refl
    branches_push (m ∷ ms) = ap (λ (x : List Branch). branch strings m ∷ x) (branches_push ms)

    push : (ms : List Node) → tokens_of_nodes strings (ms ++ n ∷ []) ≡ tokens_of_nodes strings ms ++ tokens_of_nodes strings (n ∷ [])
    push ms = ap (λ (bs : List Branch). tokens (joined bs)) (branches_push ms) ∙ nodes_append (branches strings ms) (branches strings (n ∷ []))

-- ---- the tokens up to one, that one, and those after it

properties_append : (strings : List ℕ) (ps qs : List Property)
    → tokens_of_properties strings (ps ++ qs) ≡ tokens_of_properties strings ps ++ tokens_of_properties strings qs
properties_append strings [] qs = refl
properties_append strings (p ∷ ps) qs = ap (λ (x : List Token). property (property_data strings p) ∷ x) (properties_append strings ps qs)

nodes_in_memory_append : (strings : List ℕ) (ms ns : List Node) → tokens_of_nodes strings (ms ++ ns) ≡ tokens_of_nodes strings ms ++ tokens_of_nodes strings ns
nodes_in_memory_append strings [] ns = refl
nodes_in_memory_append strings (m ∷ ms) ns = simp (nodes_in_memory_append strings ms ns, append_assoc)

pub properties_split : (strings : List ℕ) (ps : List Property) (i : ℕ) (p : Property) → i < length ps → p ≡ get_or ps i p
    → tokens_of_properties strings ps ≡ tokens_of_properties strings (take i ps)
    ++ ((property (property_data strings p) ∷ []) ++ tokens_of_properties strings (drop (i + 1) ps))
properties_split strings ps i p lt is =
    ap (tokens_of_properties strings) (sym (take-append-drop i ps)) ∙ properties_append strings (take i ps) (drop i ps)
    ∙ ap (λ (x : List Token). tokens_of_properties strings (take i ps) ++ x)
    (at_drop_more (tokens_of_properties strings) ps i p lt ∙ ap (λ (x : Property). tokens_of_properties strings (x ∷ drop (i + 1) ps)) (sym is))

pub nodes_split : (strings : List ℕ) (ns : List Node) (i : ℕ) (n : Node) → i < length ns → n ≡ get_or ns i n
    → tokens_of_nodes strings ns ≡ tokens_of_nodes strings (take i ns) ++ (tokens_of_nodes strings (n ∷ []) ++ tokens_of_nodes strings (drop (i + 1) ns))
nodes_split strings ns i n lt is =
    ap (tokens_of_nodes strings) (sym (take-append-drop i ns)) ∙ nodes_in_memory_append strings (take i ns) (drop i ns)
    ∙ ap (λ (x : List Token). tokens_of_nodes strings (take i ns) ++ x)
    (at_drop_more (tokens_of_nodes strings) ns i n lt ∙ ap (λ (x : Node). tokens_of_nodes strings (x ∷ drop (i + 1) ns)) (sym is)
    ∙ nodes_in_memory_append strings (n ∷ []) (drop (i + 1) ns))

-- ---- a node

-- a node's begin and its properties
abbrev pub front_of : List ℕ → Node → List Token
front_of strings n = begin_node (out-Node n).name.items ∷ tokens_of_properties strings (out-Node n).properties.items

node_tokens : (strings : List ℕ) (n : Node)
    → tokens_of_nodes strings (n ∷ []) ≡ front_of strings n ++ (tokens_of_nodes strings (out-Node n).children.items ++ end_node ∷ [])
node_tokens strings n = ap (λ (b : Branch). tokens (joined (b ∷ []))) (branch_out strings n)

front_same : (strings : List ℕ) (n : Node) (name : List ℕ) (ps : List Property) → name ≡ (out-Node n).name.items → ps ≡ (out-Node n).properties.items
    → begin_node name ∷ tokens_of_properties strings ps ≡ front_of strings n
front_same strings n name ps e f =
    ap (λ (x : List ℕ). begin_node x ∷ tokens_of_properties strings ps) e
    ∙ ap (λ (x : List Property). begin_node (out-Node n).name.items ∷ tokens_of_properties strings x) f

pub front_fails : (strings : List ℕ) (n : Node) (name : List ℕ) (ps : List Property) (names : List (List ℕ)) (e : FdtFault) → name ≡ (out-Node n).name.items
    → ps ≡ (out-Node n).properties.items
    → TooMuch e (size_of names (begin_node name ∷ tokens_of_properties strings ps)) → TooMuch e (size_of names (tokens_of_nodes strings (n ∷ [])))
front_fails strings n name ps names e p q h =
    subst (λ (ts : List Token). TooMuch e (size_of names ts)) (sym (node_tokens strings n))
    (too_much_then e names [] (front_of strings n) (tokens_of_nodes strings (out-Node n).children.items ++ end_node ∷ [])
    (subst (λ (ts : List Token). TooMuch e (size_of names ts)) (front_same strings n name ps p q) h))

pub begun : (strings : List ℕ) (n : Node) (name : List ℕ) (ps : List Property) (names : List (List ℕ)) (a b : Output) → name ≡ (out-Node n).name.items
    → ps ≡ (out-Node n).properties.items
    → HasTokens strings a b names (begin_node name ∷ tokens_of_properties strings ps) → HasTokens strings a b names (front_of strings n ++ [])
begun strings n name ps names a b p q h =
    subst (λ (ts : List Token). HasTokens strings a b names ts) (front_same strings n name ps p q ∙ sym (append-nil (front_of strings n))) h

module _ (strings : List ℕ) (node : Node) (items : List Node) (i : ℕ) (names : List (List ℕ)) where
  abbrev so_far : List Token
  so_far = front_of strings node ++ tokens_of_nodes strings (take i items)

  pub child_put : (n : Node) (a b c : Output) → i < length items → n ≡ get_or items i n → HasTokens strings a b names so_far
      → HasTokens strings b c (names_after names so_far) (tokens_of_nodes strings (n ∷ []))
      → HasTokens strings a c names (front_of strings node ++ tokens_of_nodes strings (take (i + 1) items))
  child_put n a b c lt is h k =
      subst (λ (ts : List Token). HasTokens strings a c names ts)
      (append_assoc (front_of strings node) (tokens_of_nodes strings (take i items)) (tokens_of_nodes strings (n ∷ []))
      ∙ ap (λ (x : List Token). front_of strings node ++ x) (sym (one_more_node strings items i n lt is)))
      (HasTokens_then strings a b c names so_far (tokens_of_nodes strings (n ∷ [])) h k)

  pub child_fails : (n : Node) (e : FdtFault) → items ≡ (out-Node node).children.items → i < length items → n ≡ get_or items i n
      → TooMuch e (size_of (names_after names so_far) (tokens_of_nodes strings (n ∷ [])))
      → TooMuch e (size_of names (tokens_of_nodes strings (node ∷ [])))
  child_fails n e of_node lt is h =
      let this = tokens_of_nodes strings (n ∷ []) in
      let behind = tokens_of_nodes strings (drop (i + 1) items) in
      let children : tokens_of_nodes strings items ++ end_node ∷ [] ≡ tokens_of_nodes strings (take i items) ++ (this ++ (behind ++ end_node ∷ [])) =
      ap (λ (x : List Token). x ++ end_node ∷ []) (nodes_split strings items i n lt is)
      ∙ append_assoc (tokens_of_nodes strings (take i items)) (this ++ behind) (end_node ∷ [])
      ∙ ap (λ (x : List Token). tokens_of_nodes strings (take i items) ++ x) (append_assoc this behind (end_node ∷ [])) in
      let whole : tokens_of_nodes strings (node ∷ []) ≡ so_far ++ (this ++ (behind ++ end_node ∷ [])) =
      node_tokens strings node
      ∙ ap (λ (x : List Node). front_of strings node ++ (tokens_of_nodes strings x ++ end_node ∷ [])) (sym of_node)
      ∙ ap (λ (x : List Token). front_of strings node ++ x) children
      ∙ sym (append_assoc (front_of strings node) (tokens_of_nodes strings (take i items)) (this ++ (behind ++ end_node ∷ []))) in
      subst (λ (ts : List Token). TooMuch e (size_of names ts)) (sym whole) (too_much_then e names so_far this (behind ++ end_node ∷ []) h)

  pub ended : (a b c : Output) → items ≡ (out-Node node).children.items → length items ≤ i → HasTokens strings a b names so_far
      → HasTokens strings b c (names_after names so_far) (end_node ∷ [])
      → HasTokens strings a c names (tokens_of_nodes strings (node ∷ []))
  ended a b c of_node le h k =
      let whole : so_far ++ end_node ∷ [] ≡ tokens_of_nodes strings (node ∷ []) =
      append_assoc (front_of strings node) (tokens_of_nodes strings (take i items)) (end_node ∷ [])
      ∙ ap (λ (x : List Node). front_of strings node ++ (tokens_of_nodes strings x ++ end_node ∷ [])) (take_all i items le ∙ of_node)
      ∙ sym (node_tokens strings node) in
      subst (λ (ts : List Token). HasTokens strings a c names ts) whole (HasTokens_then strings a b c names so_far (end_node ∷ []) h k)

-- ---- the file

-- bytes after bytes
pub two : (front a b x y : List ℕ) → x ≡ front ++ a → y ≡ x ++ b → y ≡ front ++ (a ++ b)
two front a b x y p q = q ∙ ap (λ (z : List ℕ). z ++ b) p ∙ append_assoc front a b

pub reservations_len : (rs : List Reservation) → length (reservations_text rs) ≡ 16 * length rs + 16
reservations_len [] = refl
reservations_len (r ∷ rs) = omega (arith, reservations_len rs)

pub file_len : (boot : ℕ) (reserve structure strings : List ℕ)
    → length (file_text boot reserve structure strings) ≡ 40 + length reserve + length structure + length strings
file_len boot reserve structure strings = omega (arith, length-append reserve (structure ++ strings), length-append structure strings)

pub root_tokens_are : (c : Contents) → (branch c.strings.items c.root).name ≡ []
    → tokens_of_nodes c.strings.items (c.root ∷ []) ≡ root_tokens (root_of c.strings.items c.root)
root_tokens_are c h =
    let b = branch c.strings.items c.root in
    ap (λ (n : List ℕ). tokens (node n b.properties b.children (joined []))) h

pub size_within : (c : Contents) → (branch c.strings.items c.root).name ≡ []
    → size_of [] (tokens_of_nodes c.strings.items (c.root ∷ [])) ≤ length (written (tree_in c))
size_within c h =
    let ts = root_tokens (root_of c.strings.items c.root) in
    let e = ap (size_of []) (root_tokens_are c h) in
    let l = file_len c.boot_cpu (reservations_text c.reservations.items) (structure_text (tree_in c)) (strings_text (names_after [] ts)) in
    let m = length-append (text_after [] ts) (to_be_bytes w32 9) in
    omega (arith, e, l, m)

pub written_is : (c : Contents) (structure strings : List ℕ) → (branch c.strings.items c.root).name ≡ []
    → structure ≡ text_after [] (tokens_of_nodes c.strings.items (c.root ∷ [])) ++ to_be_bytes w32 9
    → strings ≡ strings_text (names_after [] (tokens_of_nodes c.strings.items (c.root ∷ [])))
    → file_text c.boot_cpu (reservations_text c.reservations.items) structure strings ≡ written (tree_in c)
written_is c structure strings h e f =
    let toks = root_tokens_are c h in
    ap (λ (x : List ℕ). file_text c.boot_cpu (reservations_text c.reservations.items) x strings)
    (e ∙ ap (λ (ts : List Token). text_after [] ts ++ to_be_bytes w32 9) toks)
    ∙ ap (λ (x : List ℕ). file_text c.boot_cpu (reservations_text c.reservations.items) (structure_text (tree_in c)) x)
    (f ∙ ap (λ (ts : List Token). strings_text (names_after [] ts)) toks)

abbrev word : ℕ → List ℕ
word n = to_be_bytes w32 n

pub five_words : (front : List ℕ) (a b c d e : ℕ) (v w x y z : List ℕ) → v ≡ front ++ word a → w ≡ v ++ word b → x ≡ w ++ word c → y ≡ x ++ word d
    → z ≡ y ++ word e
    → z ≡ front ++ (word a ++ (word b ++ (word c ++ (word d ++ word e))))
five_words front a b c d e v w x y z p q r s t =
    two front (word a) (word b ++ (word c ++ (word d ++ word e))) v z p
    (two v (word b) (word c ++ (word d ++ word e)) w z q (two w (word c) (word d ++ word e) x z r (two x (word d) (word e) y z s t)))

pub assembled_is : (l : Lengths) (boot : ℕ) (reserve structure strings o v w x y z : List ℕ)
    → AreLengths l (length reserve) (length structure) (length strings) → o ≡ []
    → v ≡ o ++ places_text l.reserve l.structure l.strings → w ≡ v ++ versions_text l.structure l.strings boot → x ≡ w ++ reserve → y ≡ x ++ structure
    → z ≡ y ++ strings
    → z ≡ file_text boot reserve structure strings
assembled_is l boot reserve structure strings o v w x y z h e p q r s t =
    two w reserve (structure ++ strings) x z r (two x structure strings y z s t)
    ∙ ap (λ (u : List ℕ). u ++ (reserve ++ (structure ++ strings)))
    (q ∙ ap (λ (u : List ℕ). u ++ versions_text l.structure l.strings boot) (p ∙ ap (λ (u : List ℕ). u ++ places_text l.reserve l.structure l.strings) e)
    ∙ ap (λ (n : ℕ). places_text n l.structure l.strings ++ versions_text l.structure l.strings boot) h.reserve_is
    ∙ ap (λ (n : ℕ). places_text (length reserve) n l.strings ++ versions_text n l.strings boot) h.structure_is
    ∙ ap (λ (n : ℕ). places_text (length reserve) (length structure) n ++ versions_text (length structure) n boot) h.strings_is)

pub assembled_within : (l : Lengths) (boot : ℕ) (reserve structure strings z : List ℕ) → AreLengths l (length reserve) (length structure) (length strings)
    → z ≡ file_text boot reserve structure strings → length z ≤ 2 ^ 21
assembled_within l boot reserve structure strings z h e = omega (arith, ap length e, file_len boot reserve structure strings, h.fits)

pub file_too_long : (boot : ℕ) (reserve structure strings : List ℕ) (e : FdtFault) → TooMuch e (40 + length reserve + length structure + length strings)
    → TooMuch e (length (file_text boot reserve structure strings))
file_too_long boot reserve structure strings e h = subst (TooMuch e) (sym (file_len boot reserve structure strings)) h

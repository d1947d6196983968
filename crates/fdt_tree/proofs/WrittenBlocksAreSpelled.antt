-- A structure block that is written is spelled, with the strings that are written.
use Rattle.std.proofs.Common.{◌≡◌, ℕ, ◌+◌, ◌^◌, ◌<◌, Bool, true, false, cond, List, [], ◌∷◌, ◌++◌, length, drop, map, refl, sym, ap, subst, ◌∙◌, append_assoc}
use Rattle.std.proofs.Common.{arith}
use Rattle.std.specs.Int.{w32, to_be_bytes}
use Rattle.std.specs.Str.{bytes_eq}
use Rattle.std.specs.Cmp.Lexicographic.{bytes_decides}
use Rattle.std.proofs.lemmas.List.{append-nil, length-append, length-replicate, drop_at, drop-drop}
use Rattle.fdt_tree.specs.Devicetree.{PropertyData, Nodes, none, node, Token, begin_node, property, end_node, nop, finish, tokens, Root, root_tokens}
use Rattle.fdt_tree.specs.Grammar.{IsStringAt, IsTokenText, IsText, without_nops}
use Rattle.fdt_tree.specs.Writing.{is_among, noted, names_after, strings_text, offset_in, padding_after, begin_text, property_text, text_after}
use Rattle.fdt_tree.proofs.ScanOfSpelled.{inside}
use Rattle.fdt_tree.proofs.NameTables.{is_noted}

-- ---- a name is where it is said to begin, also with more names after it

past : (xs ys : List ℕ) (k o : ℕ) → length xs ≡ k → drop (k + o) (xs ++ ys) ≡ drop o ys
past xs ys k o e = sym (drop-drop o k (xs ++ ys)) ∙ ap (drop o) (drop_at xs ys k e)

stands : (names more : List (List ℕ)) (name : List ℕ) → is_among name names ≡ true → IsStringAt (strings_text (names ++ more)) (offset_in names name) name
stands [] more name h = absurd cc
stands (n ∷ ns) more name h = go (bytes_eq name n) refl h (stands ns more name)
  where
    behind : (o : ℕ) → drop (length n + 1 + o) (n ++ (0 ∷ strings_text (ns ++ more))) ≡ drop o (strings_text (ns ++ more))
    behind o =
        ap (drop (length n + 1 + o)) (sym (append_assoc n (0 ∷ []) (strings_text (ns ++ more))))
        ∙ past (n ++ 0 ∷ []) (strings_text (ns ++ more)) (length n + 1) o (length-append n (0 ∷ []))

    go : (b : Bool) → bytes_eq name n ≡ b → cond b true (is_among name ns) ≡ true
        → (is_among name ns ≡ true → IsStringAt (strings_text (ns ++ more)) (offset_in ns name) name)
        → IsStringAt (n ++ (0 ∷ strings_text (ns ++ more))) (cond b 0 (length n + 1 + offset_in ns name)) name
    go true y q later = (strings_text (ns ++ more), ap (λ (x : List ℕ). x ++ (0 ∷ strings_text (ns ++ more))) (sym ((bytes_decides name n).0 y)))
    go false y q later = let s = later q in (s.0, behind (offset_in ns name) ∙ s.1)

more_noted : (names : List (List ℕ)) (name : List ℕ) → (more : List (List ℕ)) × (noted names name ≡ names ++ more)
more_noted names name = go (is_among name names)
  where
    go : (b : Bool) → (more : List (List ℕ)) × (cond b names (names ++ name ∷ []) ≡ names ++ more)
    go true = ([], sym (append-nil names))
    go false = (name ∷ [], refl)

-- no name is taken away again
more_names : (names : List (List ℕ)) (ts : List Token) → (more : List (List ℕ)) × (names_after names ts ≡ names ++ more)
more_names names [] = ([], sym (append-nil names))
more_names names (begin_node n ∷ ts) = more_names names ts
more_names names (property e ∷ ts) =
    let a = more_noted names e.name in
    let b = more_names (noted names e.name) ts in
    (a.0 ++ b.0, b.1 ∙ ap (λ (x : List (List ℕ)). x ++ b.0) a.1 ∙ append_assoc names a.0 b.0)
more_names names (end_node ∷ ts) = more_names names ts
more_names names (nop ∷ ts) = more_names names ts
more_names names (finish ∷ ts) = more_names names ts

-- ---- the tokens

module _ (strings : List ℕ) (short : length strings < 2 ^ 32) where
  property_again : (names : List (List ℕ)) (e : PropertyData) (ts : List Token) → strings ≡ strings_text (names_after (noted names e.name) ts)
      → length e.value < 2 ^ 32
      → IsTokenText strings (property e) (property_text (offset_in (noted names e.name) e.name) e.value)
  property_again names e ts s fits =
      let known = noted names e.name in
      let offset = offset_in known e.name in
      let more = more_names known ts in
      let there : IsStringAt strings offset e.name =
      subst (λ (x : List ℕ). IsStringAt x offset e.name) (sym (s ∙ ap strings_text more.1)) (stands known more.0 e.name (is_noted names e.name)) in
      let low : offset < 2 ^ 32 = omega (arith, short, inside offset strings e.name there.0 there.1) in
      (offset, padding_after (length e.value), low, fits, length-replicate _ _, there, refl)

  pub text_again : (names : List (List ℕ)) (ts : List Token) → strings ≡ strings_text (names_after names ts) → length (text_after names ts) < 2 ^ 32
      → IsText strings ts (text_after names ts)
  text_again names [] s fits = refl
  text_again names (begin_node n ∷ ts) s fits =
      let rest = text_after names ts in (
        begin_text n,
        rest,
        (padding_after (length n + 1), length-replicate _ _, refl),
        text_again names ts s (omega (arith, fits, length-append (begin_text n) rest)),
        refl,
      )
  text_again names (property e ∷ ts) s fits =
      let known = noted names e.name in
      let rest = text_after known ts in
      let offset = offset_in known e.name in
      let whole = length-append (property_text offset e.value) rest in
      let own = length-append e.value (padding_after (length e.value)) in (
        property_text offset e.value,
        rest,
        property_again names e ts s (omega (arith, fits, whole, own)),
        text_again known ts s (omega (arith, fits, whole)),
        refl,
      )
  text_again names (end_node ∷ ts) s fits = (to_be_bytes w32 2, text_after names ts, refl, text_again names ts s (omega (arith, fits)), refl)
  text_again names (nop ∷ ts) s fits = (to_be_bytes w32 4, text_after names ts, refl, text_again names ts s (omega (arith, fits)), refl)
  text_again names (finish ∷ ts) s fits = (to_be_bytes w32 9, text_after names ts, refl, text_again names ts s (omega (arith, fits)), refl)

-- ---- the tokens of nodes have no NOP among them

module _ (us : List Token) where
  nops_append : (ts : List Token) → without_nops (ts ++ us) ≡ without_nops ts ++ without_nops us
  nops_append [] = refl
  nops_append (begin_node n ∷ ts) = ap (λ (x : List Token). begin_node n ∷ x) (nops_append ts)
  nops_append (property e ∷ ts) = ap (λ (x : List Token). property e ∷ x) (nops_append ts)
  nops_append (end_node ∷ ts) = ap (λ (x : List Token). end_node ∷ x) (nops_append ts)
  nops_append (nop ∷ ts) = nops_append ts
  nops_append (finish ∷ ts) = ap (λ (x : List Token). finish ∷ x) (nops_append ts)

no_nop_in_properties : (es : List PropertyData) → without_nops (map property es) ≡ map property es
no_nop_in_properties [] = refl
no_nop_in_properties (e ∷ es) = ap (λ (x : List Token). property e ∷ x) (no_nop_in_properties es)

no_nop_in_nodes : (f : Nodes) → without_nops (tokens f) ≡ tokens f
no_nop_in_nodes none = refl
no_nop_in_nodes (node name es children next) =
    rw (
      nops_append (tokens children ++ (end_node ∷ tokens next)) (map property es),
      nops_append (end_node ∷ tokens next) (tokens children),
      no_nop_in_properties es,
      no_nop_in_nodes children,
      no_nop_in_nodes next,
    ) refl

pub no_nop_in_root : (r : Root) → without_nops (root_tokens r) ≡ root_tokens r
no_nop_in_root r = no_nop_in_nodes (node [] r.properties r.children none)

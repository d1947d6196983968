-- The tokens that are scanned are those that are spelled.
use Rattle.std.proofs.Common.{◌≡◌, ℕ, ◌<◌, ◌≤◌, false, List, [], ◌∷◌, ◌++◌, length, Ok, refl, sym, ap, subst, ◌∙◌, arith}
use Rattle.std.specs.Int.{w32, to_be_bytes}
use Rattle.std.proofs.lemmas.List.{append-nil, length-append}
use Rattle.fdt_tree.specs.Devicetree.{Nodes, none, node, Token, begin_node, property, end_node, nop, finish, tokens, Root, root_tokens}
use Rattle.fdt_tree.specs.declared.reading.place.Place.{Place}
use Rattle.fdt_tree.specs.Scanning.{start, scan}
use Rattle.fdt_tree.specs.Grammar.{IsTokenText, IsText, without_nops, SpellsRoot}
use Rattle.fdt_tree.specs.Names.{AreLegal, IsLegal}
use Rattle.fdt_tree.proofs.AcceptedTokens.{Accepts, behind, nodes_accept, properties_accept}
use Rattle.fdt_tree.proofs.ScanOfSpelled.{reads_tokens, scan_again}
use Rattle.fdt_tree.proofs.SpellingOfScan.{IsBytes, scan_takes}
use Rattle.fdt_tree.proofs.SpellingOfToken.{takes_tokens, takes_end}
use Rattle.fdt_tree.proofs.TokensOfOneTree.{root_only, same_nodes}

token_long : (strings : List ℕ) (t : Token) (text : List ℕ) → IsTokenText strings t text → 0 < length text
token_long strings (begin_node n) text h = omega (arith, ap length h.2, length-append (to_be_bytes w32 1) (n ++ (0 ∷ h.0)))
token_long strings (property e) text h =
    omega (arith, ap length h.6, length-append (to_be_bytes w32 3) (to_be_bytes w32 (length e.value) ++ (to_be_bytes w32 h.0 ++ (e.value ++ h.1))))
token_long strings end_node text h = omega (arith, ap length h)
token_long strings nop text h = omega (arith, ap length h)
token_long strings finish text h = omega (arith, ap length h)

text_long : (strings : List ℕ) (ts : List Token) (text : List ℕ) → IsText strings ts text → length ts ≤ length text
text_long strings [] text h = omega arith
text_long strings (t ∷ ts) text h = omega (arith, token_long strings t h.0 h.2, text_long strings ts h.1 h.3, ap length h.4, length-append h.0 h.1)

root_accepted : (r : Root) → AreLegal r.properties → IsLegal 1 r.children → Accepts start (root_tokens r)
root_accepted r es children =
    let inner : Place = record { depth = 1; late = false } in
    let last : Accepts (behind inner r.children) (end_node ∷ []) = close r.children in (
      (refl, omega arith, λ e. refl),
      properties_accept r.properties 1 (tokens r.children ++ (end_node ∷ [])) (omega arith) es
          (nodes_accept r.children inner (end_node ∷ []) (omega arith) children last),
    )
  where
    close : (f : Nodes) → Accepts (behind (record { depth = 1; late = false }) f) (end_node ∷ [])
    close none = (omega arith, (refl, refl))
    close (node a b c d) = (omega arith, (refl, refl))

-- what is spelled is scanned
pub spelled_scans : (strings block : List ℕ) (r : Root) → SpellsRoot strings block r → scan strings (length block) start block ≡ Ok (root_tokens r)
spelled_scans strings block r s =
    let ok : Accepts start (without_nops s.all) = subst (λ (ts : List Token). Accepts start ts) (sym s.same) (root_accepted r s.properties s.children) in
    let long : length s.all < length block =
    omega (
      arith,
      text_long strings s.all s.front s.text,
      ap length s.parts,
      length-append s.front (to_be_bytes w32 9 ++ s.rest),
      length-append (to_be_bytes w32 9) s.rest,
    ) in
    ap (scan strings (length block) start) s.parts ∙ scan_again strings (reads_tokens strings) s.all s.front s.rest (length block) start s.text ok long
    ∙ ap (λ (ts : List Token). Ok ts) s.same

-- what is scanned is spelled
pub scan_spells : (strings block : List ℕ) (r : Root) → IsBytes block → scan strings (length block) start block ≡ Ok (root_tokens r)
    → SpellsRoot strings block r
scan_spells strings block own fits e =
    let t = scan_takes strings (takes_tokens strings) (takes_end strings) (length block) start block (root_tokens own) fits e in
    let r = root_only (node [] own.properties own.children none) t.accepted in
    let same : own ≡ r.root = ap back r.same in
    subst (λ (q : Root). SpellsRoot strings block q) (sym same)
    (record {
      all = t.all;
      front = t.front;
      rest = t.rest;
      parts = t.parts;
      text = t.text;
      same = t.same
          ∙ ap tokens r.same;
      properties = r.properties;
      children = r.children;
    })
  where
    back : Nodes → Root
    back none = record { properties = []; children = none }
    back (node n es k next) = record { properties = es; children = k }

-- tokens determine the root
pub same_root : (r s : Root) → root_tokens r ≡ root_tokens s → r ≡ s
same_root r s ts =
    let q =
    (same_nodes (node [] r.properties r.children none) (node [] s.properties s.children none) [] [] tt tt
    (append-nil (root_tokens r) ∙ ts ∙ sym (append-nil (root_tokens s)))).0 in
    ap root_of q
  where
    root_of : Nodes → Root
    root_of none = record { properties = []; children = none }
    root_of (node n es k next) = record { properties = es; children = k }

-- Tokens that are allowed where they are spell a tree, so bytes that are not refused do.
use Rattle.std.proofs.Common.{◌≡◌, ℕ, zero, suc, ◌+◌, ◌-◌, ◌<◌, ◌≤◌, true, false, List, [], ◌∷◌, ◌++◌, length, map, None, Result, Ok, Err, refl, sym, ap, subst}
use Rattle.std.proofs.Common.{◌∙◌, append_assoc, arith, inl, inr}
use Rattle.std.specs.Prelude.{All}
use Rattle.std.specs.Result.{result_err}
use Rattle.std.proofs.lemmas.Bool.{cases_lt, eqb-true}
use Rattle.std.proofs.lemmas.List.{length-append, nil_from_length, get_or_past}
use Rattle.refusal.proofs.AnswersInTurn.{bind-ok}
use Rattle.fdt_header.specs.declared.fault.FdtFault.{FdtFault}
use Rattle.fdt_tree.specs.declared.reading.place.Place.{Place}
use Rattle.fdt_tree.specs.Devicetree.{Devicetree, PropertyData, Nodes, none, node, Root, Token, begin_node, property, end_node, nop, finish, tokens}
use Rattle.fdt_tree.specs.Devicetree.{root_tokens}
use Rattle.fdt_tree.specs.Scanning.{start, scan}
use Rattle.fdt_tree.specs.Reading.{Spells, Parts, parts_of, parts_at, refusal_of}
use Rattle.refusal.specs.Answer.{◌>>=◌}
use Rattle.fdt_header.specs.Blocks.{reserve_block, structure_block, strings_block, header_at}
use Rattle.fdt_tree.specs.Reservations.{reservations_at}
use Rattle.fdt_tree.specs.Grammar.{without_nops}
use Rattle.fdt_header.specs.declared.header.Header.{Header}
use Rattle.fdt_tree.proofs.AcceptedTokens.{Accepts}
use Rattle.fdt_tree.proofs.SpellingOfScan.{IsBytes, scan_takes}
use Rattle.fdt_tree.proofs.SpellingOfToken.{IsBytes-drop, IsBytes-take, takes_tokens, takes_end}
use Rattle.fdt_tree.proofs.ReadIsSpelled.{spelled_reads, reads_spelled, behind_tokens}

abbrev NoNops : List Token → Type 0
NoNops [] = Unit {0}
NoNops (nop ∷ ts) = ⊥
NoNops (begin_node name ∷ ts) = NoNops ts
NoNops (property e ∷ ts) = NoNops ts
NoNops (end_node ∷ ts) = NoNops ts
NoNops (finish ∷ ts) = NoNops ts

no_nops : (ts : List Token) → NoNops (without_nops ts)
no_nops [] = tt
no_nops (nop ∷ ts) = no_nops ts
no_nops (begin_node name ∷ ts) = no_nops ts
no_nops (property e ∷ ts) = no_nops ts
no_nops (end_node ∷ ts) = no_nops ts
no_nops (finish ∷ ts) = no_nops ts

-- what is in an open node from here up to its end
record Inside (p : Place) (ts : List Token) : Type 0 where
  properties : List PropertyData
  children : Nodes
  rest : List Token
  parts : ts ≡ map property properties ++ (tokens children ++ (end_node ∷ rest))
  early : p.late ≡ true → properties ≡ []
  accepted : Accepts (record { depth = p.depth - 1; late = true }) rest
  plain : NoNops rest

rest_shorter : (p : Place) (ts : List Token) (i : Inside p ts) → length i.rest < length ts
rest_shorter p ts i =
    omega (
      arith,
      ap length i.parts,
      length-append (map property i.properties) (tokens i.children ++ (end_node ∷ i.rest)),
      length-append (tokens i.children) (end_node ∷ i.rest),
    )

inside : (n : ℕ) (p : Place) (ts : List Token) → length ts ≤ n → 0 < p.depth → NoNops ts → Accepts p ts → Inside p ts
inside n p [] le deep plain ok = absurd (omega (arith, ok.0))
inside zero p (t ∷ ts) le deep plain ok = absurd (omega arith)
inside (suc n) p (nop ∷ ts) le deep plain ok = absurd plain
inside (suc n) p (finish ∷ ts) le deep plain ok = absurd ok.0
inside (suc n) p (end_node ∷ ts) le deep plain ok =
    record { properties = []; children = none; rest = ts; parts = refl; early = λ h. refl; accepted = ok.1; plain = plain }
inside (suc n) p (property e ∷ ts) le deep plain ok =
    let i = inside n p ts (omega arith) deep plain ok.1 in
    record {
      properties = e ∷ i.properties;
      children = i.children;
      rest = i.rest;
      parts = ap (λ (us : List Token). property e ∷ us) i.parts;
      early = λ h. absurd (never (sym h ∙ ok.0.1));
      accepted = i.accepted;
      plain = i.plain;
    }
  where
    never : true ≡ false → ⊥
    never q = cc
inside (suc n) p (begin_node name ∷ ts) le deep plain ok =
    let child : Place = record { depth = p.depth + 1; late = false } in
    let i = inside n child ts (omega arith) (omega arith) plain ok.1 in
    let same : p.depth + 1 - 1 ≡ p.depth = omega arith in
    let behind : Place = record { depth = p.depth; late = true } in
    let accepted : Accepts behind i.rest = subst (λ (d : ℕ). Accepts (record { depth = d; late = true }) i.rest) same i.accepted in
    let j = inside n behind i.rest (omega (arith, rest_shorter child ts i)) deep i.plain accepted in
    let no_more : j.properties ≡ [] = j.early refl in
    let tail : i.rest ≡ tokens j.children ++ (end_node ∷ j.rest) =
    j.parts ∙ ap (λ (es : List PropertyData). map property es ++ (tokens j.children ++ (end_node ∷ j.rest))) no_more in
    record {
      properties = [];
      children = node name i.properties i.children j.children;
      rest = j.rest;
      parts =
          ap (λ (us : List Token). begin_node name ∷ us)
          (i.parts ∙ ap (λ (us : List Token). map property i.properties ++ (tokens i.children ++ (end_node ∷ us))) tail
          ∙ regroup (map property i.properties) (tokens i.children) (tokens j.children) (end_node ∷ j.rest));
      early = λ h. refl;
      accepted = j.accepted;
      plain = j.plain;
    }
  where
    regroup : (a b c d : List Token) → a ++ (b ++ (end_node ∷ (c ++ d))) ≡ (a ++ (b ++ (end_node ∷ c))) ++ d
    regroup a b c d = ap (λ (us : List Token). a ++ us) (sym (append_assoc b (end_node ∷ c) d)) ∙ sym (append_assoc a (b ++ (end_node ∷ c)) d)

empty_pending : (ts : List Token) → NoNops ts → Accepts (record { depth = 0; late = true }) ts → ts ≡ []
empty_pending [] plain ok = refl
empty_pending (nop ∷ ts) plain ok = absurd plain
empty_pending (begin_node name ∷ ts) plain ok = let q : true ≡ false = ok.0.2 refl in absurd cc
empty_pending (property e ∷ ts) plain ok = absurd (omega (arith, ok.0.0))
empty_pending (end_node ∷ ts) plain ok = absurd (omega (arith, ok.0))
empty_pending (finish ∷ ts) plain ok = absurd ok.0

-- tokens that stand where they may, up to END, are those of a root
some_root : (ts : List Token) → NoNops ts → Accepts start ts → (r : Root) × (ts ≡ root_tokens r)
some_root [] plain ok = let q : false ≡ true = ok.1 in absurd cc
some_root (nop ∷ ts) plain ok = absurd plain
some_root (property e ∷ ts) plain ok = absurd (omega (arith, ok.0.0))
some_root (end_node ∷ ts) plain ok = absurd (omega (arith, ok.0))
some_root (finish ∷ ts) plain ok = absurd ok.0
some_root (begin_node name ∷ ts) plain ok =
    let i = inside (length ts) (record { depth = 1; late = false }) ts (omega arith) (omega arith) plain ok.1 in
    let last : i.rest ≡ [] = empty_pending i.rest i.plain i.accepted in
    let no_name : name ≡ [] = nil_from_length name (eqb-true _ _ ok.0.0) in (
      record { properties = i.properties; children = i.children },
      ap (λ (us : List Token). begin_node name ∷ us)
          (i.parts ∙ ap (λ (us : List Token). map property i.properties ++ (tokens i.children ++ (end_node ∷ us))) last)
          ∙ ap (λ (n : List ℕ). begin_node n ∷ (map property i.properties ++ (tokens i.children ++ (end_node ∷ [])))) no_name,
    )

pub bytes_fit : (bytes : List ℕ) → All (λ b. b < 256) bytes → IsBytes bytes
bytes_fit bytes h i = elim (cases_lt i (length bytes)) [
  | inl lt ↦ h i 0 lt
  | inr le ↦ rw (get_or_past bytes i 0 le) (omega arith)
]

-- where reading finds no fault, a tree is spelled
pub found_spelled : (bytes : List ℕ) (found : Parts) → IsBytes bytes → parts_at bytes ≡ Ok found → (t : Devicetree) × (parts_at bytes ≡ Ok (parts_of t))
unfolding parts_at
found_spelled bytes found fits e =
    let tokens_in : Header → Result (List Token) FdtFault =
    λ h. scan (strings_block h bytes) (length (structure_block h bytes)) start (structure_block h bytes) in
    let a = bind-ok (header_at bytes) (λ h. reservations_at (reserve_block h bytes) >>= λ rs. tokens_in h >>= behind_tokens h rs) found e in
    let h = a.0 in
    let b = bind-ok (reservations_at (reserve_block h bytes)) (λ rs. tokens_in h >>= behind_tokens h rs) found a.2 in
    let c = bind-ok (tokens_in h) (behind_tokens h b.0) found b.2 in
    let block_fits : IsBytes (structure_block h bytes) = IsBytes-take h.size_dt_struct _ (IsBytes-drop h.off_dt_struct bytes fits) in
    let strings = strings_block h bytes in
    let t =
    scan_takes strings (takes_tokens strings) (takes_end strings) (length (structure_block h bytes)) start (structure_block h bytes) c.0 block_fits c.1 in
    let r = some_root c.0 (subst (λ (us : List Token). NoNops us) t.same (no_nops t.all)) t.accepted in (
      record { reservations = b.0; boot_cpu = h.boot_cpuid_phys; root = r.0 },
      e ∙ sym c.2 ∙ ap (λ (us : List Token). behind_tokens h b.0 us) r.1,
    )

pub no_refusal : (bytes : List ℕ) (t : Devicetree) → Spells bytes t → refusal_of bytes ≡ None
no_refusal bytes t s = rw (spelled_reads bytes t s) refl

pub refused_or_spelled : (bytes : List ℕ) → All (λ b. b < 256) bytes → refusal_of bytes ≡ None → (t : Devicetree) × Spells bytes t
refused_or_spelled bytes all none_is = go (parts_at bytes) refl none_is
  where
    go : (r : Result Parts FdtFault) → parts_at bytes ≡ r → result_err r ≡ None → (t : Devicetree) × Spells bytes t
    go (Ok found) e h = let t = found_spelled bytes found (bytes_fit bytes all) e in (t.0, reads_spelled bytes t.0 (bytes_fit bytes all) t.1)
    go (Err f) e h = absurd cc

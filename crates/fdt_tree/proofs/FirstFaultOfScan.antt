-- A scan fails as the first token that has a fault.
use Rattle.std.proofs.Common.{◌≡◌, ℕ, zero, suc, ◌+◌, ◌-◌, ◌%◌, ◌≤◌, cond, ltb, eqb, List, [], ◌∷◌, length, take, drop, Result, Ok, Err, refl, sym, ap, ◌∙◌}
use Rattle.std.proofs.Common.{arith, inl, inr}
use Rattle.std.specs.Prelude.{◌&&◌, not}
use Rattle.std.specs.Int.{w32, from_be_bytes}
use Rattle.std.proofs.lemmas.Bool.{ltb-false}
use Rattle.std.proofs.lemmas.List.{length-drop, nil_from_length}
use Rattle.refusal.proofs.AnswersInTurn.{bind-ok}
use Rattle.fdt_header.specs.declared.fault.FdtFault.{FdtFault}
use Rattle.fdt_header.specs.declared.fault.FdtFault.TheVariants.{BadToken, BadName, LateProperty, TooDeep}
use Rattle.fdt_tree.specs.declared.reading.place.Place.{Place}
use Rattle.refusal.specs.Answer.{◌>>=◌}
use Rattle.fdt_tree.specs.Devicetree.{Token, begin_node, property, end_node, nop, finish}
use Rattle.fdt_tree.specs.Scanning.{after, number_at, padded_at, string_at, legal_at, begin_at, name_at, property_at, is_over, kind_at, token_at, joins, scan}
use Rattle.fdt_tree.specs.FirstFault.{Leads}
use Rattle.fdt_header.proofs.Checks.{unless, only_if}
use Rattle.fdt_tree.proofs.SpellingOfToken.{chosen, pair_is}

-- ---- each token takes some bytes

number_rest : (bytes : List ℕ) (x : ℕ × List ℕ) → number_at bytes ≡ Ok x → length x.1 + 4 ≤ length bytes
unfolding number_at
number_rest bytes x e =
    let g = unless (ltb (length bytes) 4) BadToken (Ok (from_be_bytes w32 (take 4 bytes), drop 4 bytes)) x e in
    let long : 4 ≤ length bytes = ltb-false _ _ g.0 in
    let is = pair_is (from_be_bytes w32 (take 4 bytes)) x.0 (drop 4 bytes) x.1 g.1 in
    omega (arith, ap length is.1, length-drop 4 bytes)

padded_rest : (n : ℕ) (bytes : List ℕ) (x : List ℕ × List ℕ) → padded_at n bytes ≡ Ok x → length x.1 ≤ length bytes
unfolding padded_at
padded_rest n bytes x e =
    let k = n + (4 - n % 4) % 4 in
    let g = unless (ltb (length bytes) n) BadToken (Ok (take n bytes, drop k bytes)) x e in
    let is = pair_is (take n bytes) x.0 (drop k bytes) x.1 g.1 in
    omega (arith, ap length is.1, length-drop k bytes)

begin_rest : (p : Place) (bytes : List ℕ) (t : Token) (rest : List ℕ) → begin_at p bytes ≡ Ok (t, rest) → length rest ≤ length bytes
unfolding begin_at
begin_rest p bytes t rest e =
    let a =
    bind-ok (string_at BadToken bytes)
    (λ name. padded_at (length name + 1) bytes >>= λ text. cond (legal_at p name) (cond (ltb p.depth 64) (Ok (begin_node name, text.1)) (Err TooDeep))
    (Err BadName)) (t, rest) e in
    let b =
    bind-ok (padded_at (length a.0 + 1) bytes)
    (λ text. cond (legal_at p a.0) (cond (ltb p.depth 64) (Ok (begin_node a.0, text.1)) (Err TooDeep)) (Err BadName)) (t, rest) a.2 in
    let c = only_if (legal_at p a.0) BadName (cond (ltb p.depth 64) (Ok (begin_node a.0, b.0.1)) (Err TooDeep)) (t, rest) b.2 in
    let d = only_if (ltb p.depth 64) TooDeep (Ok (begin_node a.0, b.0.1)) (t, rest) c.1 in
    let is = pair_is (begin_node a.0) t b.0.1 rest d.1 in
    omega (arith, ap length is.1, padded_rest (length a.0 + 1) bytes b.0 b.1)

property_rest : (strings : List ℕ) (p : Place) (bytes : List ℕ) (t : Token) (rest : List ℕ) → property_at strings p bytes ≡ Ok (t, rest)
    → length rest ≤ length bytes
unfolding property_at
property_rest strings p bytes t rest e =
    let made_of : List ℕ → List ℕ → List ℕ → Result (Token × List ℕ) FdtFault = λ v r name. Ok (property (record { name = name; value = v }), r) in
    let behind_value : ℕ → List ℕ → List ℕ → Result (Token × List ℕ) FdtFault = λ o v r. cond p.late (Err LateProperty) (name_at strings o >>= made_of v r) in
    let a =
    bind-ok (number_at bytes) (λ len. number_at len.1 >>= λ offset. padded_at len.0 offset.1 >>= λ value. behind_value offset.0 value.0 value.1)
    (t, rest) e in
    let b = bind-ok (number_at a.0.1) (λ offset. padded_at a.0.0 offset.1 >>= λ value. behind_value offset.0 value.0 value.1) (t, rest) a.2 in
    let c = bind-ok (padded_at a.0.0 b.0.1) (λ value. behind_value b.0.0 value.0 value.1) (t, rest) b.2 in
    let g = unless p.late LateProperty (name_at strings b.0.0 >>= made_of c.0.0 c.0.1) (t, rest) c.2 in
    let i = bind-ok (name_at strings b.0.0) (made_of c.0.0 c.0.1) (t, rest) g.1 in
    let is = pair_is (property (record { name = i.0; value = c.0.0 })) t c.0.1 rest i.2 in
    omega (arith, ap length is.1, number_rest bytes a.0 a.1, number_rest a.0.1 b.0 b.1, padded_rest a.0.0 b.0.1 c.0 c.1)

kind_rest : (strings : List ℕ) (p : Place) (kind : ℕ) (body : List ℕ) (t : Token) (rest : List ℕ) → kind_at strings p kind body ≡ Ok (t, rest)
    → length rest ≤ length body
unfolding kind_at
kind_rest strings p kind body t rest e =
    elim (chosen (eqb kind 1 && not (is_over p)) _ _ _ e) [
      | inl h ↦ begin_rest p body t rest h.1
      | inr g ↦ elim (chosen (eqb kind 2 && ltb 0 p.depth) _ _ _ g.1) [
        | inl h ↦ same end_node h.1
        | inr g ↦ elim (chosen (eqb kind 3 && ltb 0 p.depth) _ _ _ g.1) [
          | inl h ↦ property_rest strings p body t rest h.1
          | inr g ↦ elim (chosen (eqb kind 4) _ _ _ g.1) [
            | inl h ↦ same nop h.1
            | inr g ↦ same finish (only_if (eqb kind 9 && is_over p) BadToken (Ok (finish, body)) (t, rest) g.1).1
          ]
        ]
      ]
    ]
  where
    same : (own : Token) → (let r : Result (Token × List ℕ) FdtFault = Ok (own, body) in r) ≡ Ok (t, rest) → length rest ≤ length body
    same own q = omega (arith, ap length (pair_is own t body rest q).1)

pub token_rest : (strings : List ℕ) (p : Place) (bytes : List ℕ) (t : Token) (rest : List ℕ) → token_at strings p bytes ≡ Ok (t, rest)
    → length rest + 4 ≤ length bytes
unfolding token_at
token_rest strings p bytes t rest e =
    let b = bind-ok (number_at bytes) (λ kind. kind_at strings p kind.0 kind.1) (t, rest) e in
    omega (arith, number_rest bytes b.0 b.1, kind_rest strings p b.0.0 b.0.1 t rest b.2)

no_bytes : (strings : List ℕ) (p : Place) → token_at strings p [] ≡ Err BadToken
unfolding token_at number_at
no_bytes strings p = refl

-- ---- the tokens in front of the fault

abbrev pub FaultBehind : List ℕ → Place → List ℕ → FdtFault → Type 0
FaultBehind strings p bytes f = (ts : List Token) × (q : Place) × (rest : List ℕ) × Leads strings p bytes ts q rest × (token_at strings q rest ≡ Err f)

joins_fails : (t : Token) (more : Result (List Token) FdtFault) (f : FdtFault) → joins t more ≡ Err f → (t ≡ finish → ⊥) × (more ≡ Err f)
joins_fails finish more f e = absurd cc
joins_fails nop more f e = (λ q. cc, e)
joins_fails (begin_node n) (Ok ts) f e = absurd cc
joins_fails (begin_node n) (Err d) f e = (λ q. cc, cc)
joins_fails (property x) (Ok ts) f e = absurd cc
joins_fails (property x) (Err d) f e = (λ q. cc, cc)
joins_fails end_node (Ok ts) f e = absurd cc
joins_fails end_node (Err d) f e = (λ q. cc, cc)

joins_fault : (t : Token) (f : FdtFault) → (t ≡ finish → ⊥) → joins t (Err f) ≡ Err f
joins_fault finish f h = absurd (h refl)
joins_fault nop f h = refl
joins_fault (begin_node n) f h = refl
joins_fault (property x) f h = refl
joins_fault end_node f h = refl

pub scan_fails : (strings : List ℕ) (n : ℕ) (p : Place) (bytes : List ℕ) (f : FdtFault) → length bytes ≤ n → scan strings n p bytes ≡ Err f
    → FaultBehind strings p bytes f
unfolding scan
scan_fails strings zero p bytes f le e =
    let none_left : bytes ≡ [] = nil_from_length bytes (omega arith) in
    ([], p, bytes, (refl, refl), ap (token_at strings p) none_left ∙ no_bytes strings p ∙ same e)
  where
    same : (let r : Result (List Token) FdtFault = Err BadToken in r) ≡ Err f → (let r : Result (Token × List ℕ) FdtFault = Err BadToken in r) ≡ Err f
    same q = let g : BadToken ≡ f = cc in ap (λ (x : FdtFault). Err x) g
scan_fails strings (suc n) p bytes f le e = go (token_at strings p bytes) refl e (scan_fails strings n)
  where
    go : (r : Result (Token × List ℕ) FdtFault) → token_at strings p bytes ≡ r → (r >>= λ t. joins t.0 (scan strings n (after p t.0) t.1)) ≡ Err f
        → ((q : Place) (bs : List ℕ) (g : FdtFault) → length bs ≤ n → scan strings n q bs ≡ Err g → FaultBehind strings q bs g) → FaultBehind strings p bytes f
    go (Err d) h q ih = let g : d ≡ f = cc in ([], p, bytes, (refl, refl), h ∙ ap (λ (x : FdtFault). Err x) g)
    go (Ok t) h q ih =
        let j = joins_fails t.0 (scan strings n (after p t.0) t.1) f q in
        let i = ih (after p t.0) t.1 f (omega (arith, token_rest strings p bytes t.0 t.1 h)) j.1 in
        (t.0 ∷ i.0, i.1, i.2, (j.0, t.1, h, i.3), i.4)

pub fault_scans : (strings : List ℕ) (ts : List Token) (n : ℕ) (p q : Place) (bytes rest : List ℕ) (f : FdtFault) → length bytes ≤ n
    → Leads strings p bytes ts q rest → token_at strings q rest ≡ Err f → scan strings n p bytes ≡ Err f
unfolding scan
fault_scans strings [] zero p q bytes rest f le l e =
    let none_left : rest ≡ [] = sym l.1 ∙ nil_from_length bytes (omega arith) in
    same (sym (no_bytes strings q) ∙ ap (token_at strings q) (sym none_left) ∙ e)
  where
    same : (let r : Result (Token × List ℕ) FdtFault = Err BadToken in r) ≡ Err f → (let r : Result (List Token) FdtFault = Err BadToken in r) ≡ Err f
    same h = let g : BadToken ≡ f = cc in ap (λ (x : FdtFault). Err x) g
fault_scans strings [] (suc n) p q bytes rest f le l e =
    let here : token_at strings p bytes ≡ Err f = ap (λ (x : Place). token_at strings x bytes) l.0 ∙ ap (token_at strings q) l.1 ∙ e in
    rw here refl
fault_scans strings (t ∷ ts) zero p q bytes rest f le l e =
    absurd (omega (arith, token_rest strings p bytes t l.1 l.2))
fault_scans strings (t ∷ ts) (suc n) p q bytes rest f le l e =
    let later : scan strings n (after p t) l.1 ≡ Err f =
    fault_scans strings ts n (after p t) q l.1 rest f (omega (arith, token_rest strings p bytes t l.1 l.2)) l.3 e in
    rw (l.2, later) (joins_fault t f l.0)

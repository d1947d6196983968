-- A token that is read is spelled so.
use Rattle.std.proofs.Common.{◌≡◌, ℕ, zero, suc, ◌+◌, ◌-◌, ◌%◌, ◌^◌, ◌<◌, ◌≤◌, Bool, true, false, cond, ltb, eqb, List, [], ◌∷◌, ◌++◌, length, take, drop}
use Rattle.std.proofs.Common.{Option, Some, None, Result, Ok, Err, refl, sym, ap, subst, ◌∙◌, append_assoc, arith, inl, inr, ◌⊎◌}
use Rattle.std.specs.Prelude.{IsTrue, ◌&&◌, not}
use Rattle.std.specs.Int.{w32, to_be_bytes, from_be_bytes}
use Rattle.std.proofs.lemmas.Bool.{cases_lt, ltb-false, ltb-true, eqb-true, eq-eqb, and_parts}
use Rattle.std.proofs.lemmas.List.{take_at, take-append-drop, length-append, length-take, length-drop, get_or-drop, get_or-take, get_or_past, drop-drop}
use Rattle.std.proofs.lemmas.Nat.{be_bytes_4}
use Rattle.refusal.proofs.AnswersInTurn.{bind-ok}
use Rattle.fdt_header.specs.declared.fault.FdtFault.{FdtFault}
use Rattle.fdt_header.specs.declared.fault.FdtFault.TheVariants.{BadToken, BadName, BadString, LateProperty, TooDeep}
use Rattle.fdt_tree.specs.Devicetree.{PropertyData, Token, begin_node, property, end_node, nop, finish}
use Rattle.refusal.specs.Answer.{◌>>=◌}
use Rattle.fdt_tree.specs.declared.reading.place.Place.{Place}
use Rattle.fdt_tree.specs.Scanning.{number_at, padded_at, until_zero, legal_at, string_at, name_at, begin_at, property_at, is_over, kind_at, token_at}
use Rattle.fdt_tree.specs.Names.{legal}
use Rattle.fdt_tree.specs.Grammar.{IsPadding, IsStringAt, IsTokenText}
use Rattle.fdt_header.proofs.Checks.{unless, only_if}
use Rattle.fdt_tree.proofs.AcceptedTokens.{Allowed}
use Rattle.fdt_tree.proofs.SpellingOfScan.{IsBytes, Took, TookEnd, TakesTokens, TakesEnd}

pub IsBytes-drop : (n : ℕ) (bytes : List ℕ) → IsBytes bytes → IsBytes (drop n bytes)
IsBytes-drop n bytes h i = rw get_or-drop (h (n + i))

pub IsBytes-take : (n : ℕ) (bytes : List ℕ) → IsBytes bytes → IsBytes (take n bytes)
IsBytes-take n bytes h i =
    elim (cases_lt i n) [
      | inl lt ↦ rw (get_or-take n bytes i 0 lt) (h i)
      | inr le ↦ rw (get_or_past (take n bytes) i 0 (omega (arith, length-take n bytes))) (omega arith)
    ]

pub chosen : {A : Type 0} (b : Bool) (x y z : A) → cond b x y ≡ z → ((b ≡ true) × (x ≡ z)) ⊎ ((b ≡ false) × (y ≡ z))
chosen true x y z e = inl (refl, e)
chosen false x y z e = inr (refl, e)

abbrev done : {A : Type 0} → A → Result A FdtFault
done x = Ok x

pub pair_is : {A B : Type 0} (a c : A) (b d : B) → done {A = A × B} (a, b) ≡ done {A = A × B} (c, d) → (a ≡ c) × (b ≡ d)
pair_is {A = A} {B = B} a c b d e = let q : (let x : A × B = (a, b) in x) ≡ (c, d) = cc in (ap (λ (x : A × B). x.0) q, ap (λ (x : A × B). x.1) q)

pub record Number (bytes : List ℕ) (n : ℕ) (rest : List ℕ) : Type 0 where
  pub parts : bytes ≡ to_be_bytes w32 n ++ rest
  pub below : n < 2 ^ 32
  pub rest_fits : IsBytes rest

number_takes : (bytes : List ℕ) (n : ℕ) (rest : List ℕ) → IsBytes bytes → number_at bytes ≡ Ok (n, rest) → Number bytes n rest
unfolding number_at
number_takes bytes n rest fits e =
    let g = unless (ltb (length bytes) 4) BadToken (Ok (from_be_bytes w32 (take 4 bytes), drop 4 bytes)) (n, rest) e in
    let long : 4 ≤ length bytes = ltb-false _ _ g.0 in
    let is = pair_is (from_be_bytes w32 (take 4 bytes)) n (drop 4 bytes) rest g.1 in
    let f = IsBytes-take 4 bytes fits in
    let front : to_be_bytes w32 n ≡ take 4 bytes = ap (to_be_bytes w32) (sym is.0) ∙ be_bytes_4 (take 4 bytes) _ (omega (arith, length-take 4 bytes)) f refl in
    let whole : bytes ≡ take 4 bytes ++ drop 4 bytes = sym (take-append-drop 4 bytes) in
    let limit : from_be_bytes w32 (take 4 bytes) < 2 ^ 32 = below (take 4 bytes) f in
    record {
      parts = whole ∙ ap (λ (x : List ℕ). x ++ drop 4 bytes) (sym front)
          ∙ ap (λ (x : List ℕ). to_be_bytes w32 n ++ x) is.1;
      below = subst (λ (m : ℕ). m < 2 ^ 32) is.0 limit;
      rest_fits = subst IsBytes is.1
          (IsBytes-drop 4 bytes fits);
    }
  where
    below : (bs : List ℕ) → IsBytes bs → from_be_bytes w32 bs < 2 ^ 32
    below bs h = omega (arith, h 0, h 1, h 2, h 3)

pub record Padded (n : ℕ) (bytes text rest : List ℕ) : Type 0 where
  pub pad : List ℕ
  pub parts : bytes ≡ text ++ (pad ++ rest)
  pub len : length text ≡ n
  pub padding : IsPadding n pad
  pub rest_fits : IsBytes rest

padded_takes : (n : ℕ) (bytes text rest : List ℕ) → IsBytes bytes → 0 < length rest → padded_at n bytes ≡ Ok (text, rest) → Padded n bytes text rest
unfolding padded_at
padded_takes n bytes text rest fits more e =
    let k = (4 - n % 4) % 4 in
    let g = unless (ltb (length bytes) n) BadToken (Ok (take n bytes, drop (n + k) bytes)) (text, rest) e in
    let is = pair_is (take n bytes) text (drop (n + k) bytes) rest g.1 in
    let long : n + k < length bytes = omega (arith, more, ap length is.1, length-drop (n + k) bytes) in
    let back : drop k (drop n bytes) ≡ rest = drop-drop k n bytes ∙ is.1 in
    let len : length (take n bytes) ≡ n = omega (arith, length-take n bytes) in
    record {
      pad = take k (drop n bytes);
      parts =
          sym (take-append-drop n bytes) ∙ ap (λ (x : List ℕ). x ++ drop n bytes) is.0
          ∙ ap (λ (x : List ℕ). text ++ x) (sym (take-append-drop k (drop n bytes)) ∙ ap (λ (x : List ℕ). take k (drop n bytes) ++ x) back);
      len = ap length (sym is.0) ∙ len;
      padding = omega (arith, length-take k (drop n bytes), length-drop n bytes);
      rest_fits = subst IsBytes is.1 (IsBytes-drop (n + k) bytes fits);
    }

zero_takes : (bytes : List ℕ) (n : ℕ) → until_zero bytes ≡ Some n → (others : List ℕ) × (bytes ≡ take n bytes ++ (0 ∷ others))
zero_takes [] n e = absurd cc
zero_takes (zero ∷ bs) n e = let z : 0 ≡ n = cc in subst (λ (m : ℕ). (others : List ℕ) × (0 ∷ bs ≡ take m (0 ∷ bs) ++ (0 ∷ others))) z (bs, refl)
zero_takes (suc b ∷ bs) n e = go (until_zero bs) refl e (zero_takes bs)
  where
    go : (o : Option ℕ) → until_zero bs ≡ o → (let r : Option ℕ = elim o [ None ↦ None | Some m ↦ Some (suc m) ] in r) ≡ Some n
        → ((m : ℕ) → until_zero bs ≡ Some m → (others : List ℕ) × (bs ≡ take m bs ++ (0 ∷ others)))
        → (others : List ℕ) × (suc b ∷ bs ≡ take n (suc b ∷ bs) ++ (0 ∷ others))
    go None h q ih = absurd cc
    go (Some m) h q ih = let z : suc m ≡ n = cc in let t = ih m h in
        subst (λ (k : ℕ). (others : List ℕ) × (suc b ∷ bs ≡ take k (suc b ∷ bs) ++ (0 ∷ others))) z (t.0, ap (λ (x : List ℕ). suc b ∷ x) t.1)

string_takes : (f : FdtFault) (bytes name : List ℕ) → string_at f bytes ≡ Ok name → (others : List ℕ) × (bytes ≡ name ++ (0 ∷ others))
unfolding string_at
string_takes f bytes name e = go (until_zero bytes) refl e
  where
    go : (o : Option ℕ) → until_zero bytes ≡ o
        → (let r : Result (List ℕ) FdtFault = elim o [ None ↦ Err f | Some n ↦ Ok (take n bytes) ] in r) ≡ done {A = List ℕ} name
        → (others : List ℕ) × (bytes ≡ name ++ (0 ∷ others))
    go None h q = absurd cc
    go (Some n) h q = let z : take n bytes ≡ name = cc in let t = zero_takes bytes n h in (t.0, t.1 ∙ ap (λ (x : List ℕ). x ++ (0 ∷ t.0)) z)

-- a token that is not END, and what it took where bytes follow it
abbrev Taking : List ℕ → Place → List ℕ → Token → List ℕ → Type 0
Taking strings p whole t rest = (t ≡ finish → ⊥) × (0 < length rest → Took strings p whole t rest)

begin_takes : (strings : List ℕ) (p : Place) (bytes : List ℕ) (t : Token) (rest : List ℕ) → IsBytes bytes → (p.depth ≡ 0 → p.late ≡ false)
    → begin_at p bytes ≡ Ok (t, rest)
    → (whole : List ℕ) → whole ≡ to_be_bytes w32 1 ++ bytes → Taking strings p whole t rest
unfolding begin_at
begin_takes strings p bytes t rest fits early e whole shape =
    let a =
    bind-ok (string_at BadToken bytes)
    (λ name. padded_at (length name + 1) bytes >>= λ text. cond (legal_at p name) (cond (ltb p.depth 64) (Ok (begin_node name, text.1)) (Err TooDeep))
    (Err BadName)) (t, rest) e in
    let name = a.0 in
    let b =
    bind-ok (padded_at (length name + 1) bytes)
    (λ text. cond (legal_at p name) (cond (ltb p.depth 64) (Ok (begin_node name, text.1)) (Err TooDeep)) (Err BadName)) (t, rest) a.2 in
    let s = string_takes BadToken bytes name a.1 in
    let c = only_if (legal_at p name) BadName (cond (ltb p.depth 64) (Ok (begin_node name, b.0.1)) (Err TooDeep)) (t, rest) b.2 in
    let d = only_if (ltb p.depth 64) TooDeep (Ok (begin_node name, b.0.1)) (t, rest) c.1 in
    let is = pair_is (begin_node name) t b.0.1 rest d.1 in (
      λ z. other is.0 z,
      λ more.
          let q = padded_takes (length name + 1) bytes b.0.0 b.0.1 fits (omega (arith, more, ap length is.1)) b.1 in
          let ended = name ++ 0 ∷ [] in
          let text_is : b.0.0 ≡ ended =
          sym (take_at b.0.0 (q.pad ++ b.0.1) (length name + 1) q.len)
          ∙ ap (take (length name + 1)) (sym q.parts ∙ s.1 ∙ sym (append_assoc name (0 ∷ []) s.0))
          ∙ take_at ended s.0 (length name + 1) (length-append name (0 ∷ [])) in
          let front = to_be_bytes w32 1 ++ (name ++ (0 ∷ q.pad)) in
          let parts : whole ≡ front ++ b.0.1 =
          shape ∙ ap (λ (x : List ℕ). to_be_bytes w32 1 ++ x) (q.parts ∙ ap (λ (x : List ℕ). x ++ (q.pad ++ b.0.1)) text_is) ∙ simp append_assoc in
          let made : Took strings p whole (begin_node name) b.0.1 =
          record { front = front; parts = parts; text = (q.pad, q.padding, refl); allowed = (c.0, ltb-true _ _ d.0, early); rest_fits = q.rest_fits } in
          subst (λ (r : List ℕ). Took strings p whole t r) is.1 (subst (λ (u : Token). Took strings p whole u b.0.1) is.0 made),
    )
  where
    other : {name : List ℕ} → begin_node name ≡ t → t ≡ finish → ⊥
    other a z = cc

pub name_takes : (strings : List ℕ) (offset : ℕ) (name : List ℕ) → name_at strings offset ≡ Ok name → IsStringAt strings offset name × IsTrue (legal name)
unfolding name_at
name_takes strings offset name e =
    let made : List ℕ → Result (List ℕ) FdtFault = λ name. cond (legal name) (Ok name) (Err BadName) in
    let h = only_if (ltb offset (length strings)) BadString (string_at BadString (drop offset strings) >>= made) name e in
    let i = bind-ok (string_at BadString (drop offset strings)) made name h.1 in
    let k = only_if (legal i.0) BadName (Ok i.0) name i.2 in
    let same : i.0 ≡ name = ok_is i.0 name k.1 in
    let s = string_takes BadString (drop offset strings) i.0 i.1 in
    ((s.0, s.1 ∙ ap (λ (x : List ℕ). x ++ (0 ∷ s.0)) same), subst (λ (x : List ℕ). IsTrue (legal x)) same k.0)
  where
    ok_is : (a b : List ℕ) → done {A = List ℕ} a ≡ done {A = List ℕ} b → a ≡ b
    ok_is a b q = cc

property_takes : (strings : List ℕ) (p : Place) (bytes : List ℕ) (t : Token) (rest : List ℕ) → IsBytes bytes → 0 < p.depth
    → property_at strings p bytes ≡ Ok (t, rest)
    → (whole : List ℕ) → whole ≡ to_be_bytes w32 3 ++ bytes → Taking strings p whole t rest
unfolding property_at
property_takes strings p bytes t rest fits deep e whole shape =
    let made_of : List ℕ → List ℕ → List ℕ → Result (Token × List ℕ) FdtFault = λ v r name. Ok (property (record { name = name; value = v }), r) in
    let behind_value : ℕ → List ℕ → List ℕ → Result (Token × List ℕ) FdtFault = λ o v r. cond p.late (Err LateProperty) (name_at strings o >>= made_of v r) in
    let a =
    bind-ok (number_at bytes) (λ len. number_at len.1 >>= λ offset. padded_at len.0 offset.1 >>= λ value. behind_value offset.0 value.0 value.1)
    (t, rest) e in
    let b = bind-ok (number_at a.0.1) (λ offset. padded_at a.0.0 offset.1 >>= λ value. behind_value offset.0 value.0 value.1) (t, rest) a.2 in
    let c = bind-ok (padded_at a.0.0 b.0.1) (λ value. behind_value b.0.0 value.0 value.1) (t, rest) b.2 in
    let n = number_takes bytes a.0.0 a.0.1 fits a.1 in
    let o = number_takes a.0.1 b.0.0 b.0.1 n.rest_fits b.1 in
    let g = unless p.late LateProperty (name_at strings b.0.0 >>= made_of c.0.0 c.0.1) (t, rest) c.2 in
    let i = bind-ok (name_at strings b.0.0) (made_of c.0.0 c.0.1) (t, rest) g.1 in
    let k = name_takes strings b.0.0 i.0 i.1 in
    let found : PropertyData = record { name = i.0; value = c.0.0 } in
    let is = pair_is (property found) t c.0.1 rest i.2 in (
      λ z. other is.0 z,
      λ more.
          let v = padded_takes a.0.0 b.0.1 c.0.0 c.0.1 o.rest_fits (omega (arith, more, ap length is.1)) c.1 in
          let front = to_be_bytes w32 3 ++ (to_be_bytes w32 (length c.0.0) ++ (to_be_bytes w32 b.0.0 ++ (c.0.0 ++ v.pad))) in
          let parts : whole ≡ front ++ c.0.1 =
          shape ∙ ap (λ (x : List ℕ). to_be_bytes w32 3 ++ x)
          (n.parts ∙ ap (λ (m : ℕ). to_be_bytes w32 m ++ a.0.1) (sym v.len)
          ∙ ap (λ (x : List ℕ). to_be_bytes w32 (length c.0.0) ++ x)
          (o.parts ∙ ap (λ (x : List ℕ). to_be_bytes w32 b.0.0 ++ x) v.parts))
          ∙ grouped (to_be_bytes w32 3) (to_be_bytes w32 (length c.0.0)) (to_be_bytes w32 b.0.0) c.0.0 v.pad c.0.1 in
          let fits_len : length c.0.0 < 2 ^ 32 = subst (λ (m : ℕ). m < 2 ^ 32) (sym v.len) n.below in
          let made : Took strings p whole (property found) c.0.1 =
          record {
            front = front;
            parts = parts;
            text = (
              b.0.0,
              v.pad,
              o.below,
              fits_len,
              subst (λ (m : ℕ). IsPadding m v.pad) (sym v.len) v.padding,
              k.0,
              refl,
            );
            allowed = (deep, g.0, k.1);
            rest_fits = v.rest_fits;
          } in
          subst (λ (r : List ℕ). Took strings p whole t r) is.1 (subst (λ (u : Token). Took strings p whole u c.0.1) is.0 made),
    )
  where
    other : {e : PropertyData} → property e ≡ t → t ≡ finish → ⊥
    other a z = cc

    grouped : (a b c d e f : List ℕ) → a ++ (b ++ (c ++ (d ++ (e ++ f)))) ≡ (a ++ (b ++ (c ++ (d ++ e)))) ++ f
    grouped a b c d e f = simp append_assoc

abbrev Taken : List ℕ → Place → List ℕ → Token → List ℕ → Type 0
Taken strings p whole t rest = Taking strings p whole t rest ⊎ ((t ≡ finish) × TookEnd p whole rest)

plain : (strings : List ℕ) (p : Place) (whole body : List ℕ) (kind : ℕ) (own t : Token) (rest : List ℕ) → IsBytes body → whole ≡ to_be_bytes w32 kind ++ body
    → IsTokenText strings own (to_be_bytes w32 kind) → Allowed p own → (own ≡ finish → ⊥) → (own ≡ t) × (body ≡ rest) → Taking strings p whole t rest
plain strings p whole body kind own t rest fits shape text ok other is =
    let made : Took strings p whole own body = record { front = to_be_bytes w32 kind; parts = shape; text = text; allowed = ok; rest_fits = fits } in
    (λ z. other (is.0 ∙ z), λ more. subst (λ (r : List ℕ). Took strings p whole t r) is.1 (subst (λ (u : Token). Took strings p whole u body) is.0 made))

begins_early : (d : ℕ) (late : Bool) → not (eqb d 0 && late) ≡ true → d ≡ 0 → late ≡ false
begins_early d true h z = let same : eqb d 0 ≡ true = eq-eqb d 0 z in let no : false ≡ true = rw same at h in absurd cc
begins_early d false h z = refl

kind_takes : (strings : List ℕ) (p : Place) (kind : ℕ) (body whole : List ℕ) (t : Token) (rest : List ℕ) → IsBytes body → whole ≡ to_be_bytes w32 kind ++ body
    → kind_at strings p kind body ≡ Ok (t, rest) → Taken strings p whole t rest
unfolding kind_at
kind_takes strings p kind body whole t rest fits shape e =
    elim (chosen (eqb kind 1 && not (is_over p)) _ _ _ e) [
      | inl h ↦ let k = and_parts _ _ h.0 in
          inl (begin_takes strings p body t rest fits (begins_early p.depth p.late k.1) h.1 whole (at kind 1 (eqb-true _ _ k.0) shape))
      | inr g ↦ elim (chosen (eqb kind 2 && ltb 0 p.depth) _ _ _ g.1) [
        | inl h ↦ let k = and_parts _ _ h.0 in
            inl (plain strings p whole body 2 end_node t rest fits (at kind 2 (eqb-true _ _ k.0) shape) refl (ltb-true _ _ k.1) (λ z. cc)
            (pair_is end_node t body rest h.1))
        | inr g ↦ elim (chosen (eqb kind 3 && ltb 0 p.depth) _ _ _ g.1) [
          | inl h ↦ let k = and_parts _ _ h.0 in
              inl (property_takes strings p body t rest fits (ltb-true _ _ k.1) h.1 whole (at kind 3 (eqb-true _ _ k.0) shape))
          | inr g ↦ elim (chosen (eqb kind 4) _ _ _ g.1) [
            | inl h ↦ inl (plain strings p whole body 4 nop t rest fits (at kind 4 (eqb-true _ _ h.0) shape) refl tt (λ z. cc) (pair_is nop t body rest h.1))
            | inr g ↦
                let f = only_if (eqb kind 9 && is_over p) BadToken (Ok (finish, body)) (t, rest) g.1 in
                let k = and_parts _ _ f.0 in
                let o = and_parts (eqb p.depth 0) p.late k.1 in
                let is = pair_is finish t body rest f.1 in
                inr (
                  sym is.0,
                  record {
                    parts = at kind 9 (eqb-true _ _ k.0) shape
                        ∙ ap (λ (x : List ℕ). to_be_bytes w32 9 ++ x) is.1;
                    depth = eqb-true _ _ o.0;
                    late = o.1;
                  },
                )
          ]
        ]
      ]
    ]
  where
    at : (a b : ℕ) → a ≡ b → whole ≡ to_be_bytes w32 a ++ body → whole ≡ to_be_bytes w32 b ++ body
    at a b q w = w ∙ ap (λ (n : ℕ). to_be_bytes w32 n ++ body) q

token_takes : (strings : List ℕ) (p : Place) (bytes : List ℕ) (t : Token) (rest : List ℕ) → IsBytes bytes → token_at strings p bytes ≡ Ok (t, rest)
    → Taken strings p bytes t rest
unfolding token_at
token_takes strings p bytes t rest fits e =
    let b = bind-ok (number_at bytes) (λ kind. kind_at strings p kind.0 kind.1) (t, rest) e in
    let n = number_takes bytes b.0.0 b.0.1 fits b.1 in
    kind_takes strings p b.0.0 b.0.1 bytes t rest n.rest_fits n.parts b.2

pub takes_tokens : (strings : List ℕ) → TakesTokens strings
takes_tokens strings p t bytes rest fits ne more e = elim (token_takes strings p bytes t rest fits e) [ inl h ↦ h.1 more | inr h ↦ absurd (ne h.0) ]

pub takes_end : (strings : List ℕ) → TakesEnd strings
takes_end strings p bytes rest fits e = elim (token_takes strings p bytes finish rest fits e) [ inl h ↦ absurd (h.0 refl) | inr h ↦ h.1 ]

-- The names in a strings block, found from its runs of name characters and its last zero byte.
use Rattle.std.proofs.Common.{◌≡◌, ℕ, zero, suc, ◌+◌, ◌<◌, ◌≤◌, Bool, true, false, cond, ltb, eqb, List, [], ◌∷◌, ◌++◌, length, get_or, take, drop, Option}
use Rattle.std.proofs.Common.{Some, None, Ok, Err, refl, sym, ap, subst, ◌∙◌, arith, inl, inr, ◌⊎◌}
use Rattle.std.specs.Prelude.{◌&&◌}
use Rattle.std.proofs.lemmas.Bool.{cases_lt, lt-ltb, le-ltb, cases_Bool}
use Rattle.std.proofs.lemmas.Bool.Decides.{nat_tests}
use Rattle.std.proofs.lemmas.List.{take_more, length-drop, length-take-le, get_or-drop}
use Rattle.std.proofs.Math.Bool.{and-false}
use Rattle.fdt_header.specs.declared.fault.FdtFault.TheVariants.{BadName, BadString}
use Rattle.refusal.specs.Answer.{◌>>=◌}
use Rattle.fdt_tree.specs.Names.{is_name_character, all_name_characters, legal}
use Rattle.fdt_tree.specs.inside.NameRuns.{name_run, name_runs, zero_end}
use Rattle.fdt_tree.specs.Scanning.{until_zero, string_at, name_at}

-- ---- the last zero byte

abbrev end_step : ℕ → ℕ → ℕ
end_step c z = cond (ltb 0 z) (suc z) (cond (eqb c 0) 1 0)

pub zero_end_push : (xs : List ℕ) (x : ℕ) → zero_end (xs ++ x ∷ []) ≡ cond (eqb x 0) (length xs + 1) (zero_end xs)
zero_end_push [] x = refl
zero_end_push (y ∷ ys) x = ap (end_step y) (zero_end_push ys x) ∙ moved (eqb x 0) y (length ys) (zero_end ys)
  where
    moved : (b : Bool) (c n z : ℕ) → end_step c (cond b (n + 1) z) ≡ cond b (suc n + 1) (end_step c z)
    moved true c n z = let p : ltb 0 (n + 1) ≡ true = lt-ltb 0 (n + 1) (omega arith) in rw p (omega arith)
    moved false c n z = refl

behind_head : (c z o : ℕ) → end_step c z ≤ suc o → z ≤ o
behind_head c z o h = grind (arith, nat_tests)

before_tail : (c z o : ℕ) → suc o < end_step c z → o < z
before_tail c z o h = grind (arith, nat_tests)

head_no_zero : (c z : ℕ) → end_step c z ≤ 0 → (0 < c) × (z ≤ 0)
head_no_zero c z h = (grind (arith, nat_tests), grind (arith, nat_tests))

tail_has_zero : (b z : ℕ) → 0 < end_step (suc b) z → 0 < z
tail_has_zero b z h = grind (arith, nat_tests)

pub none_ahead : (s : List ℕ) (o : ℕ) → zero_end s ≤ o → until_zero (drop o s) ≡ None
none_ahead [] zero h = refl
none_ahead [] (suc o) h = refl
none_ahead (zero ∷ cs) zero h = absurd (omega (arith, (head_no_zero 0 (zero_end cs) h).0))
none_ahead (suc b ∷ cs) zero h = rw (none_ahead cs 0 (head_no_zero (suc b) (zero_end cs) h).1) refl
none_ahead (c ∷ cs) (suc o) h = none_ahead cs o (behind_head c (zero_end cs) o h)

pub some_ahead : (s : List ℕ) (o : ℕ) → o < zero_end s → (n : ℕ) × (until_zero (drop o s) ≡ Some n)
some_ahead [] o h = absurd (omega arith)
some_ahead (zero ∷ cs) zero h = (0, refl)
some_ahead (suc b ∷ cs) zero h = let t = some_ahead cs 0 (tail_has_zero b (zero_end cs) h) in (suc t.0, rw t.1 refl)
some_ahead (c ∷ cs) (suc o) h = some_ahead cs o (before_tail c (zero_end cs) o h)

pub zero_end_le : (s : List ℕ) → zero_end s ≤ length s
zero_end_le [] = omega arith
zero_end_le (c ∷ cs) = within c (zero_end cs) (length cs) (zero_end_le cs)
  where
    within : (c z n : ℕ) → z ≤ n → end_step c z ≤ suc n
    within c z n h = grind (arith, nat_tests)

-- ---- the runs

pub run_at : (s : List ℕ) (o : ℕ) → get_or (name_runs s) o 0 ≡ name_run (drop o s)
run_at [] zero = refl
run_at [] (suc o) = refl
run_at (c ∷ cs) zero = refl
run_at (c ∷ cs) (suc o) = run_at cs o

pub length-name_runs : (s : List ℕ) → length (name_runs s) ≡ length s
length-name_runs [] = refl
length-name_runs (c ∷ cs) = ap suc (length-name_runs cs)

-- ---- a name

-- the letters in front of s go as far as its first zero byte, or to another byte before that
abbrev pub IsName : List ℕ → ℕ → Type 0
IsName s n = (name_run s ≡ n) × (all_name_characters (take n s) ≡ true) × (get_or s n 0 ≡ 0)

abbrev pub IsNoName : List ℕ → ℕ → Type 0
IsNoName s n = (name_run s < n) × (all_name_characters (take n s) ≡ false) × (0 < get_or s (name_run s) 0)

name_or_not : (s : List ℕ) (n : ℕ) → until_zero s ≡ Some n → (n < length s) × (IsName s n ⊎ IsNoName s n)
name_or_not [] n e = absurd cc
name_or_not (zero ∷ cs) n e =
    let z : 0 ≡ n = cc in
    subst (λ (m : ℕ). (m < suc (length cs)) × (IsName (0 ∷ cs) m ⊎ IsNoName (0 ∷ cs) m)) z (omega arith, inl (refl, refl, refl))
name_or_not (suc b ∷ cs) n e = go (until_zero cs) refl e (name_or_not cs)
  where
    next : (m : ℕ) → (m < length cs) × (IsName cs m ⊎ IsNoName cs m) → (suc m < suc (length cs)) × (IsName (suc b ∷ cs) (suc m) ⊎ IsNoName (suc b ∷ cs) (suc m))
    next m ih = (
      omega (arith, ih.0),
      elim (cases_Bool (is_name_character (suc b))) [
        | inl t ↦ elim ih.1 [
          | inl h ↦ inl (rw t (ap suc h.0), rw t h.1, h.2)
          | inr h ↦ inr (rw t (omega (arith, h.0)), rw t h.1, rw t h.2)
        ]
        | inr f ↦ inr (rw f (omega arith), rw f refl, rw f (omega arith))
      ],
    )

    go : (o : Option ℕ) → until_zero cs ≡ o → (let r : Option ℕ = elim o [ None ↦ None | Some m ↦ Some (suc m) ] in r) ≡ Some n
        → ((m : ℕ) → until_zero cs ≡ Some m → (m < length cs) × (IsName cs m ⊎ IsNoName cs m))
        → (n < suc (length cs)) × (IsName (suc b ∷ cs) n ⊎ IsNoName (suc b ∷ cs) n)
    go None h q ih = absurd cc
    go (Some m) h q ih = let z : suc m ≡ n = cc in
        subst (λ (k : ℕ). (k < suc (length cs)) × (IsName (suc b ∷ cs) k ⊎ IsNoName (suc b ∷ cs) k)) z (next m (ih m h))

pub run_inside : (s : List ℕ) (o : ℕ) → o < zero_end s → o + name_run (drop o s) < length s
run_inside s o h =
    let t = some_ahead s o h in
    let k = name_or_not (drop o s) t.0 t.1 in
    elim k.1 [ inl a ↦ omega (arith, a.0, k.0, length-drop o s) | inr a ↦ omega (arith, a.0, k.0, length-drop o s) ]

pub no_name : (s : List ℕ) (o : ℕ) → zero_end s ≤ o → name_at s o ≡ Err BadString
unfolding name_at string_at
no_name s o h = go (ltb o (length s))
  where
    go : (b : Bool) → cond b (string_at BadString (drop o s) >>= λ name. cond (legal name) (Ok name) (Err BadName)) (Err BadString) ≡ Err BadString
    go true = rw (none_ahead s o h, string_at) refl
    go false = refl

named : (s : List ℕ) (o n : ℕ) → o < zero_end s → until_zero (drop o s) ≡ Some n
    → name_at s o ≡ cond (legal (take n (drop o s))) (Ok (take n (drop o s))) (Err BadName)
unfolding name_at string_at
named s o n h e =
    let inside : ltb o (length s) ≡ true = lt-ltb _ _ (omega (arith, zero_end_le s)) in
    rw (inside, e, string_at) refl

legal_is : (s : List ℕ) (n : ℕ) → n < length s → legal (take n s) ≡ (ltb 0 n && all_name_characters (take n s))
legal_is s n h = ap (λ (m : ℕ). ltb 0 m && all_name_characters (take n s)) (length-take-le n s (omega arith))

pub good_name : (s : List ℕ) (o k : ℕ) → o < zero_end s → k ≡ name_run (drop o s) → 0 < k → get_or s (o + k) 0 ≡ 0 → name_at s o ≡ Ok (take k (drop o s))
good_name s o k h is long stop =
    let t = some_ahead s o h in
    let n = t.0 in
    let q = name_or_not (drop o s) n t.1 in
    elim q.1 [
      | inl a ↦
          let same : n ≡ k = omega (arith, a.0, is) in
          let some : ltb 0 n ≡ true = lt-ltb 0 n (omega (arith, a.0, is)) in
          let fine : legal (take n (drop o s)) ≡ true = legal_is (drop o s) n q.0 ∙ rw (some, a.1) refl in
          named s o n h t.1 ∙ rw fine refl ∙ ap (λ (m : ℕ). Ok (take m (drop o s))) same
      | inr a ↦ absurd (omega (arith, a.2, stop, is, get_or-drop o s (name_run (drop o s)) 0, ap (λ (m : ℕ). get_or s (o + m) 0) is))
    ]

pub bad_name : (s : List ℕ) (o k : ℕ) → o < zero_end s → k ≡ name_run (drop o s) → (0 < k → 0 < get_or s (o + k) 0) → name_at s o ≡ Err BadName
bad_name s o k h is other =
    let t = some_ahead s o h in
    let n = t.0 in
    let q = name_or_not (drop o s) n t.1 in
    elim q.1 [
      | inl a ↦
          let none_there : n ≡ 0 = elim (cases_lt 0 n) [
            | inl long ↦ absurd (omega (arith, other (omega (arith, a.0, is)), a.2, get_or-drop o s n 0, ap (λ (m : ℕ). get_or s (o + m) 0) (sym a.0 ∙ sym is)))
            | inr le ↦ omega arith
          ] in
          let no : ltb 0 n ≡ false = le-ltb 0 n (omega arith) in
          let wrong : legal (take n (drop o s)) ≡ false = legal_is (drop o s) n q.0 ∙ rw no refl in
          named s o n h t.1 ∙ rw wrong refl
      | inr a ↦
          let wrong : legal (take n (drop o s)) ≡ false = legal_is (drop o s) n q.0 ∙ rw a.1 (and-false (ltb 0 n)) in
          named s o n h t.1 ∙ rw wrong refl
    ]

-- one more byte in front of which the last zero byte is sought
pub end_more : (bytes : List ℕ) (i last : ℕ) → i < length bytes → last ≡ zero_end (take i bytes)
    → zero_end (take (i + 1) bytes) ≡ cond (eqb (get_or bytes i 0) 0) (i + 1) last
end_more bytes i last lt e =
    let long : length (take i bytes) ≡ i = length-take-le i bytes (omega arith) in
    ap zero_end (take_more bytes i 0 lt) ∙ zero_end_push (take i bytes) (get_or bytes i 0) ∙ rw (long, sym e) refl

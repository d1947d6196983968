-- Parts that lead to the same measurement are the same, or two messages of theirs collide.
use Rattle.std.proofs.Common.{◌≡◌, ℕ, ◌<◌, ◌≤◌, ◌⊎◌, inl, inr, ◌∙◌, List, [], ◌∷◌, length, true, sym, refl, ap, arith}
use Rattle.std.specs.List.{All, AllByRecursion}
use Rattle.std.specs.Str.{bytes_eq}
use Rattle.std.proofs.lemmas.Bool.{cases_Bool, cases_lt}
use Rattle.std.proofs.lemmas.Slice.Eq.{bytes_eq-Decides}
use Rattle.rim_desc.specs.Measurement.{measurement_of}
use Rattle.rim_desc.specs.Page.{zeros}
use Rattle.rim_desc.specs.Part.{Part, Realm, extended, extended_by, rim_of}
use Rattle.rim_desc.specs.declared.measurement.Algo.{Algo}
use Rattle.rmi_line.specs.Typed.{Are64Bytes, IsByte}
use Rattle.rim_binding.specs.Chain.{Fits, IsChained, IsPage, message}
use Rattle.rim_binding.specs.Collision.{Collision, CollisionBetween}
use Rattle.rim_binding.proofs.MessagesAreBytes.{IsDescriptor, descriptor, extended-fits, extended-message, measurement-fits, same-digest}
use Rattle.rim_binding.proofs.OneMessageOneExtension.{SameExtension, same_extension}

-- ---- collisions

pub collide : (algo : Algo) (P Q : List ℕ → Type 0) (m n : List ℕ) → P m → Q n → All IsByte m → All IsByte n → ((m ≡ n) → ⊥)
    → measurement_of algo m ≡ measurement_of algo n → CollisionBetween algo P Q
collide algo P Q m n m_in n_in m_bytes n_bytes differ same =
    let one : Collision algo =
    record { first = m; second = n; first_bytes = m_bytes; second_bytes = n_bytes; differ = differ; same = same-digest algo m n same } in
    record { collision = one; first_in = m_in; second_in = n_in }

-- messages with one measurement are the same, or collide
pub same-or-collide : (algo : Algo) (P Q : List ℕ → Type 0) (m n : List ℕ) → P m → Q n → All IsByte m → All IsByte n
    → measurement_of algo m ≡ measurement_of algo n → (m ≡ n) ⊎ CollisionBetween algo P Q
same-or-collide algo P Q m n m_in n_in m_bytes n_bytes same = elim (cases_Bool (bytes_eq m n)) [
  | inl e ↦ inl ((bytes_eq-Decides m n).0 e)
  | inr d ↦ inr (collide algo P Q m n m_in n_in m_bytes n_bytes (λ e. (let t : bytes_eq m n ≡ true = (bytes_eq-Decides m n).1 e in absurd (cc))) same)
]

pub swapped : (algo : Algo) (P Q : List ℕ → Type 0) → CollisionBetween algo P Q → CollisionBetween algo Q P
swapped algo P Q found =
    let c : Collision algo = found.collision in
    let turned : Collision algo = record {
      first = c.second;
      second = c.first;
      first_bytes = c.second_bytes;
      second_bytes = c.first_bytes;
      differ = λ e. c.differ (sym e);
      same = sym c.same;
    } in
    record { collision = turned; first_in = found.second_in; second_in = found.first_in }

-- messages of one kind are among those of another
abbrev pub Among : (P Q : List ℕ → Type 0) → Type 0
Among P Q = (m : List ℕ) → P m → Q m

-- ---- as many parts on either side

pub record SameChain (r s : List ℕ) (xs ys : List Part) : Type 0 where
  pub rims : r ≡ s
  pub parts : xs ≡ ys

same_chain : (algo : Algo) (P Q : List ℕ → Type 0) (xs ys : List Part) (r s : List ℕ) → Are64Bytes r → Are64Bytes s
    → AllByRecursion Fits xs → AllByRecursion Fits ys → Among (IsChained algo r xs) P → Among (IsChained algo s ys) Q
    → length xs ≡ length ys → extended_by algo r xs ≡ extended_by algo s ys → SameChain r s xs ys ⊎ CollisionBetween algo P Q
same_chain algo P Q [] [] r s r_fits s_fits xs_fit ys_fit in_p in_q long same = inl (record { rims = same; parts = refl })
same_chain algo P Q [] (y ∷ ys) r s r_fits s_fits xs_fit ys_fit in_p in_q long same = absurd (omega arith)
same_chain algo P Q (x ∷ xs) [] r s r_fits s_fits xs_fit ys_fit in_p in_q long same = absurd (omega arith)
same_chain algo P Q (x ∷ xs) (y ∷ ys) r s r_fits s_fits xs_fit ys_fit in_p in_q long same =
    let later : SameChain (extended algo r x) (extended algo s y) xs ys ⊎ CollisionBetween algo P Q =
    same_chain algo P Q xs ys (extended algo r x) (extended algo s y) (extended-fits algo r x) (extended-fits algo s y) xs_fit.1 ys_fit.1
    (λ m m_in. in_p m (inr m_in)) (λ m m_in. in_q m (inr m_in)) (omega arith) same in
    elim later [
      | inr found ↦ inr found
      | inl others ↦
          let x_message : IsDescriptor (message r x) = descriptor r x r_fits xs_fit.0 in
          let y_message : IsDescriptor (message s y) = descriptor s y s_fits ys_fit.0 in
          let one : measurement_of algo (message r x) ≡ measurement_of algo (message s y) =
          sym (extended-message algo r x) ∙ others.rims ∙ extended-message algo s y in
          elim (same-or-collide algo P Q (message r x) (message s y) (in_p (message r x) (inl refl)) (in_q (message s y) (inl refl))
          x_message.bytes y_message.bytes one) [
            | inr found ↦ inr found
            | inl alike ↦
                let first : SameExtension r s x y = same_extension r s x y r_fits.0 s_fits.0 xs_fit.0 ys_fit.0 alike in
                inl (record { rims = first.rims; parts = (λ i. first.parts i ∷ others.parts i) })
          ]
    ]

-- ---- more parts on one side

-- where the realm's page meets a descriptor: they differ in their length
level : (algo : Algo) (P Q : List ℕ → Type 0) (page m : List ℕ) (xs ys : List Part) (s : List ℕ) → IsPage page → IsDescriptor m → P page → Q m
    → s ≡ measurement_of algo m → AllByRecursion Fits xs → AllByRecursion Fits ys → Among (IsChained algo (measurement_of algo page) xs) P
    → Among (IsChained algo s ys) Q → length xs ≡ length ys → extended_by algo (measurement_of algo page) xs ≡ extended_by algo s ys
    → CollisionBetween algo P Q
level algo P Q page m xs ys s page_fits m_fits page_in m_in at xs_fit ys_fit in_p in_q long same =
    let s_fits : Are64Bytes s = rw at (measurement-fits algo m) in
    let differ : (page ≡ m) → ⊥ = λ e.
    (let size : length page ≡ length m = ap (λ (x : List ℕ). length x) e in
    let page_size : length page ≡ 4096 = page_fits.0 in
    let m_size : length m ≡ 256 = m_fits.long in
    omega arith) in
    elim (same_chain algo P Q xs ys (measurement_of algo page) s (measurement-fits algo page) s_fits xs_fit ys_fit in_p in_q long same) [
      | inr found ↦ found
      | inl all ↦ collide algo P Q page m page_in m_in page_fits.1 m_fits.bytes differ (all.rims ∙ at)
    ]

-- so it does where one side has more parts: the last part without a partner is that descriptor
longer : (algo : Algo) (P Q : List ℕ → Type 0) (page m : List ℕ) (xs ys : List Part) (s : List ℕ) → IsPage page → IsDescriptor m → P page → Q m
    → s ≡ measurement_of algo m → AllByRecursion Fits xs → AllByRecursion Fits ys → Among (IsChained algo (measurement_of algo page) xs) P
    → Among (IsChained algo s ys) Q → length xs ≤ length ys → extended_by algo (measurement_of algo page) xs ≡ extended_by algo s ys
    → CollisionBetween algo P Q
longer algo P Q page m xs [] s page_fits m_fits page_in m_in at xs_fit ys_fit in_p in_q more same =
    level algo P Q page m xs [] s page_fits m_fits page_in m_in at xs_fit ys_fit in_p in_q (omega arith) same
longer algo P Q page m xs (y ∷ ys) s page_fits m_fits page_in m_in at xs_fit ys_fit in_p in_q more same =
    let s_fits : Are64Bytes s = rw at (measurement-fits algo m) in
    elim (cases_lt (length xs) (length (y ∷ ys))) [
      | inr most ↦ level algo P Q page m xs (y ∷ ys) s page_fits m_fits page_in m_in at xs_fit ys_fit in_p in_q (omega arith) same
      | inl less ↦ longer algo P Q page (message s y) xs ys (extended algo s y) page_fits (descriptor s y s_fits ys_fit.0) page_in
          (in_q (message s y) (inl refl)) (extended-message algo s y) xs_fit ys_fit.1 in_p (λ n n_in. in_q n (inr n_in)) (omega arith) same
    ]

-- ---- two realms

pub record SameRealm (page page2 : List ℕ) (xs ys : List Part) : Type 0 where
  pub pages : page ≡ page2
  pub parts : xs ≡ ys

abbrev pub Chained : Algo → List ℕ → List Part → List ℕ → Type 0
Chained algo page parts m = IsChained algo (zeros 64) (Realm page ∷ parts) m

-- the second side has more parts
more-parts : (algo : Algo) (P Q : List ℕ → Type 0) (p q : List ℕ) (xs ys : List Part) → IsPage p → IsPage q → AllByRecursion Fits xs → AllByRecursion Fits ys
    → Among (Chained algo p xs) P → Among (Chained algo q ys) Q → length xs < length ys
    → rim_of algo (Realm p ∷ xs) ≡ rim_of algo (Realm q ∷ ys) → CollisionBetween algo P Q
more-parts algo P Q p q xs [] p_fits q_fits xs_fit ys_fit in_p in_q more same = absurd (omega arith)
more-parts algo P Q p q xs (y ∷ ys) p_fits q_fits xs_fit ys_fit in_p in_q more same =
    let s : List ℕ = measurement_of algo q in
    let s_fits : Are64Bytes s = measurement-fits algo q in
    longer algo P Q p (message s y) xs ys (extended algo s y) p_fits (descriptor s y s_fits ys_fit.0) (in_p p (inl refl))
    (in_q (message s y) (inr (inl refl))) (extended-message algo s y) xs_fit ys_fit.1 (λ m m_in. in_p m (inr m_in))
    (λ m m_in. in_q m (inr (inr m_in))) (omega arith) same

pub same_realm : (algo : Algo) (P Q : List ℕ → Type 0) (p q : List ℕ) (xs ys : List Part) → IsPage p → IsPage q
    → AllByRecursion Fits xs → AllByRecursion Fits ys → Among (Chained algo p xs) P → Among (Chained algo q ys) Q
    → rim_of algo (Realm p ∷ xs) ≡ rim_of algo (Realm q ∷ ys) → SameRealm p q xs ys ⊎ CollisionBetween algo P Q
same_realm algo P Q p q xs ys p_fits q_fits xs_fit ys_fit in_p in_q same = elim (cases_lt (length xs) (length ys)) [
  | inl less ↦ inr (more-parts algo P Q p q xs ys p_fits q_fits xs_fit ys_fit in_p in_q less same)
  | inr most ↦ elim (cases_lt (length ys) (length xs)) [
    | inl less ↦ inr (swapped algo Q P (more-parts algo Q P q p ys xs q_fits p_fits ys_fit xs_fit in_q in_p less (sym same)))
    | inr least ↦ elim (same_chain algo P Q xs ys (measurement_of algo p) (measurement_of algo q) (measurement-fits algo p) (measurement-fits algo q)
        xs_fit ys_fit
        (λ m m_in. in_p m (inr m_in)) (λ m m_in. in_q m (inr m_in)) (omega arith) same) [
          | inr found ↦ inr found
          | inl all ↦ elim (same-or-collide algo P Q p q (in_p p (inl refl)) (in_q q (inl refl)) p_fits.1 q_fits.1 all.rims) [
            | inr found ↦ inr found
            | inl pages ↦ inl (record { pages = pages; parts = all.parts })
          ]
        ]
  ]
]

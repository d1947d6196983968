-- A page determines its fields, where each one begins past the one before it.
use Rattle.std.proofs.Common.{◌≡◌, ℕ, ◌+◌, ◌≤◌, ◌&&◌, ◌∙◌, true, List, [], ◌∷◌, ◌++◌, length, map, take, drop, refl, sym, ap, arith}
use Rattle.std.proofs.Common.{length-drop}
use Rattle.std.specs.Prelude.{Bool, nat_le}
use Rattle.std.proofs.Math.Seq.{drop-append_seam, take-append_seam}
use Rattle.std.proofs.lemmas.List.{drop-append-le, length-take-le, take-append-drop, take-append-le}
use Rattle.std.proofs.lemmas.Bool.{and_parts, leb-true}
use Rattle.rim_desc.specs.Page.{Field, with_fields, with_part}
use Rattle.rim_desc.proofs.BytesBesideFields.{length-with_part}

-- n bytes from an offset on
abbrev pub read : ℕ → ℕ → List ℕ → List ℕ
read at n page = take n (drop at page)

pub read_put : (page part : List ℕ) (at : ℕ) → at + length part ≤ length page → read at (length part) (with_part page at part) ≡ part
unfolding with_part
read_put page part at fits =
    let front : length (take at page) ≡ at = length-take-le at page (omega arith) in
    let rest : List ℕ = part ++ drop (length part) (drop at page) in
    let dropped : drop at (take at page ++ rest) ≡ rest =
    ap (λ k. drop k (take at page ++ rest)) (sym front) ∙ drop-append_seam (take at page) rest in
    ap (take (length part)) dropped ∙ take-append_seam part (drop (length part) (drop at page))

read_front : (xs ys : List ℕ) (from n : ℕ) → from + n ≤ length xs → read from n (xs ++ ys) ≡ read from n xs
read_front xs ys from n inside =
    ap (take n) (drop-append-le from xs ys (omega arith)) ∙ take-append-le n (drop from xs) ys (omega (arith, length-drop from xs))

-- a part leaves what is before it
pub read_before : (page part : List ℕ) (at from n : ℕ) → at + length part ≤ length page → from + n ≤ at
    → read from n (with_part page at part) ≡ read from n page
unfolding with_part
read_before page part at from n fits before =
    let front : length (take at page) ≡ at = length-take-le at page (omega arith) in
    let inside : from + n ≤ length (take at page) = omega arith in
    read_front (take at page) (part ++ drop (length part) (drop at page)) from n inside
    ∙ sym (read_front (take at page) (drop at page) from n inside)
    ∙ ap (read from n) (take-append-drop at page)

-- ---- fields one after another

-- the offset of each field and its length: each begins where the one before it ends, or later, and ends within the page
abbrev pub are_in_order : ℕ → ℕ → List (ℕ × ℕ) → Bool
are_in_order size low [] = true
are_in_order size low (s ∷ ss) = nat_le low s.0 && nat_le (s.0 + s.1) size && are_in_order size (s.0 + s.1) ss

-- the fields have these offsets and lengths
abbrev pub HasSlots : List (ℕ × ℕ) → List Field → Type 0
HasSlots [] [] = Unit {0}
HasSlots [] (f ∷ fs) = ⊥
HasSlots (s ∷ ss) [] = ⊥
HasSlots (s ∷ ss) (f ∷ fs) = (f.at ≡ s.0) × (length f.part ≡ s.1) × HasSlots ss fs

record InOrder (size low : ℕ) (s : ℕ × ℕ) (ss : List (ℕ × ℕ)) : Type 0 where
  begins : low ≤ s.0
  ends : s.0 + s.1 ≤ size
  others : are_in_order size (s.0 + s.1) ss ≡ true

in-order : (size low : ℕ) (s : ℕ × ℕ) (ss : List (ℕ × ℕ)) → are_in_order size low (s ∷ ss) ≡ true → InOrder size low s ss
in-order size low s ss order =
    let first = and_parts (nat_le low s.0 && nat_le (s.0 + s.1) size) (are_in_order size (s.0 + s.1) ss) order in
    let both = and_parts (nat_le low s.0) (nat_le (s.0 + s.1) size) first.0 in
    record { begins = leb-true _ _ both.0; ends = leb-true _ _ both.1; others = first.1 }

-- bytes before the first field stay as they were
kept : (ss : List (ℕ × ℕ)) (fs : List Field) (page : List ℕ) (size low from n : ℕ) → length page ≡ size → are_in_order size low ss ≡ true
    → HasSlots ss fs → from + n ≤ low → read from n (with_fields page fs) ≡ read from n page
kept [] [] page size low from n long order has before = refl
kept [] (f ∷ fs) page size low from n long order has before = absurd has
kept (s ∷ ss) [] page size low from n long order has before = absurd has
kept (s ∷ ss) (f ∷ fs) page size low from n long order has before =
    let here : InOrder size low s ss = in-order size low s ss order in
    let begins : low ≤ s.0 = here.begins in
    let ends : s.0 + s.1 ≤ size = here.ends in
    let at : f.at ≡ s.0 = has.0 in
    let size_of : length f.part ≡ s.1 = has.1 in
    let fits : f.at + length f.part ≤ length page = omega arith in
    kept ss fs (with_part page f.at f.part) size (s.0 + s.1) from n (length-with_part page f.part f.at fits ∙ long) here.others has.2 (omega arith)
    ∙ read_before page f.part f.at from n fits (omega arith)

-- the first field can be read back
pub first_read : (s : ℕ × ℕ) (ss : List (ℕ × ℕ)) (f : Field) (fs : List Field) (page : List ℕ) (size low : ℕ) → length page ≡ size
    → are_in_order size low (s ∷ ss) ≡ true → HasSlots (s ∷ ss) (f ∷ fs) → read s.0 s.1 (with_fields page (f ∷ fs)) ≡ f.part
first_read s ss f fs page size low long order has =
    let here : InOrder size low s ss = in-order size low s ss order in
    let ends : s.0 + s.1 ≤ size = here.ends in
    let at : f.at ≡ s.0 = has.0 in
    let size_of : length f.part ≡ s.1 = has.1 in
    let fits : f.at + length f.part ≤ length page = omega arith in
    kept ss fs (with_part page f.at f.part) size (s.0 + s.1) s.0 s.1 (length-with_part page f.part f.at fits ∙ long) here.others has.2 (omega arith)
    ∙ (λ i. read (sym at i) (sym size_of i) (with_part page f.at f.part))
    ∙ read_put page f.part f.at fits

-- so pages that are the same have the same fields
pub same_parts : (ss : List (ℕ × ℕ)) (fs gs : List Field) (p q : List ℕ) (size low : ℕ) → are_in_order size low ss ≡ true → length p ≡ size → length q ≡ size
    → HasSlots ss fs → HasSlots ss gs → with_fields p fs ≡ with_fields q gs → map (λ (f : Field). f.part) fs ≡ map (λ (f : Field). f.part) gs
same_parts [] [] [] p q size low order long_p long_q has_f has_g same = refl
same_parts [] [] (g ∷ gs) p q size low order long_p long_q has_f has_g same = absurd has_g
same_parts [] (f ∷ fs) gs p q size low order long_p long_q has_f has_g same = absurd has_f
same_parts (s ∷ ss) [] gs p q size low order long_p long_q has_f has_g same = absurd has_f
same_parts (s ∷ ss) (f ∷ fs) [] p q size low order long_p long_q has_f has_g same = absurd has_g
same_parts (s ∷ ss) (f ∷ fs) (g ∷ gs) p q size low order long_p long_q has_f has_g same =
    let here : InOrder size low s ss = in-order size low s ss order in
    let ends : s.0 + s.1 ≤ size = here.ends in
    let at_f : f.at ≡ s.0 = has_f.0 in
    let at_g : g.at ≡ s.0 = has_g.0 in
    let size_f : length f.part ≡ s.1 = has_f.1 in
    let size_g : length g.part ≡ s.1 = has_g.1 in
    let fits_f : f.at + length f.part ≤ length p = omega arith in
    let fits_g : g.at + length g.part ≤ length q = omega arith in
    let head : f.part ≡ g.part =
    sym (first_read s ss f fs p size low long_p order has_f) ∙ ap (read s.0 s.1) same ∙ first_read s ss g gs q size low long_q order has_g in
    let tail : map (λ (h : Field). h.part) fs ≡ map (λ (h : Field). h.part) gs =
    same_parts ss fs gs (with_part p f.at f.part) (with_part q g.at g.part) size (s.0 + s.1) here.others
    (length-with_part p f.part f.at fits_f ∙ long_p) (length-with_part q g.part g.at fits_g ∙ long_q) has_f.2 has_g.2 same in
    (λ i. head i ∷ tail i)

-- What is left of a line after words were taken from its front.
use Rattle.std.proofs.Common.{◌≡◌, ℕ, ◌+◌, ◌^◌, ◌<◌, ◌++◌, List, [], ◌∷◌, append_assoc, arith, drop, get_or, length, map, set, subst, take, sym, ap, ◌∙◌}
use Rattle.std.proofs.Math.Seq.{take-append_seam}
use Rattle.std.proofs.lemmas.Fmt.{decimal_injective}
use Rattle.std.proofs.lemmas.List.{append_cancel_left, append_cancel_right, drop_more, length-set, map-append, take_more_set}
use Rattle.std.specs.Fmt.{decimal}
use Rattle.std.specs.List.{All, flat_map}
use Rattle.rmi_line.specs.declared.reader.Words.{Words}
use Rattle.rmi_line.specs.inside.Left.{AreLeft, Takes}
use Rattle.rmi_line.specs.inside.Words.{spaced}

-- where all is as it was, the same words are left
pub left_alike : (old new : Words) (words : List (List ℕ)) → new.whole ≡ old.whole → new.rest.now ≡ old.rest.now
    → AreLeft old words → AreLeft new words
left_alike old new words whole rest left = record { whole = whole ∙ left.whole; rest = rest ∙ left.rest }

-- a word that was taken was before those that are left
pub left_before : (old new : Words) (word : List ℕ) (others : List (List ℕ)) → new.whole ≡ old.whole → old.rest.now ≡ spaced word ++ new.rest.now
    → AreLeft new others → AreLeft old (word ∷ others)
left_before old new word others whole rest left =
    record { whole = sym whole ∙ left.whole; rest = rest ∙ ap (λ r. spaced word ++ r) left.rest }

-- those after a word that was taken are left
pub left_after : (old new : Words) (word : List ℕ) (others : List (List ℕ)) → new.whole ≡ old.whole → old.rest.now ≡ spaced word ++ new.rest.now
    → AreLeft old (word ∷ others) → AreLeft new others
left_after old new word others whole rest left =
    record { whole = whole ∙ left.whole; rest = append_cancel_left (spaced word) new.rest.now (flat_map spaced others) (sym rest ∙ left.rest) }

-- words of one length that begin one rest are the same
pub same_front : (a b x y : List ℕ) → length a ≡ length b → spaced a ++ x ≡ spaced b ++ y → a ≡ b
same_front a b x y size same =
    sym (take-append_seam a x) ∙ ap (take (length a)) (append_cancel_left (32 ∷ []) (a ++ x) (b ++ y) same)
    ∙ ap (λ k. take k (b ++ y)) size ∙ take-append_seam b y

-- one number is next, whatever is after it
pub same_number : (left : Words) (m n : ℕ) (others : List (List ℕ)) → m < 2 ^ 64 → n < 2 ^ 64
    → AreLeft left (decimal m ∷ others) → AreLeft left (decimal n ∷ others) → m ≡ n
same_number left m n others small fits a b =
    decimal_injective m n small fits
    (append_cancel_right (decimal m) (decimal n) (flat_map spaced others)
    (append_cancel_left (32 ∷ []) (decimal m ++ flat_map spaced others) (decimal n ++ flat_map spaced others) (sym a.rest ∙ b.rest)))

-- ---- a word for each place

-- the values before the place i were taken, and the others are left
pub record AreTaken (spelled : ℕ → List ℕ) (IsValue : ℕ → Type 0) (old new : Words) (places : List ℕ) (i : ℕ) : Type 0 where
  pub found : (others : List (List ℕ)) → AreLeft new others → AreLeft old (map spelled (take i places) ++ others)
  pub only : (values : List ℕ) (others : List (List ℕ)) → length values ≡ length places → All IsValue values
      → AreLeft old (map spelled values ++ others) → AreLeft new (map spelled (drop i values) ++ others)

pub taken_more : (spelled : ℕ → List ℕ) (IsValue : ℕ → Type 0) (old now new : Words) (places : List ℕ) (i n : ℕ) → i < length places
    → AreTaken spelled IsValue old now places i → Takes (λ n. spelled n ∷ []) IsValue now n new → AreTaken spelled IsValue old new (set places i n) (i + 1)
taken_more spelled IsValue old now new places i n inside taken next = record {
  found = λ others left.
      let grown : map spelled (take (i + 1) (set places i n)) ++ others ≡ map spelled (take i places) ++ (spelled n ∷ others) =
      ap (λ ns. map spelled ns ++ others) (take_more_set places i n inside)
      ∙ ap (λ ws. ws ++ others) (map-append spelled (take i places) (n ∷ []))
      ∙ append_assoc (map spelled (take i places)) (spelled n ∷ []) others in
      subst (AreLeft old) (sym grown) (taken.found (spelled n ∷ others) (next.found others left));
  only = λ values others size fit left.
      let same : length values ≡ length places = size ∙ length-set places i n in
      let below : i < length values = omega (arith, same, inside) in
      let rest : map spelled (drop i values) ++ others ≡ spelled (get_or values i 0) ∷ (map spelled (drop (i + 1) values) ++ others) =
      ap (λ ns. map spelled ns ++ others) (drop_more values i 0 below) in
      next.only (get_or values i 0) _ (fit i 0 below) (subst (AreLeft now) rest (taken.only values others same fit left));
}

-- Reading reservation after reservation, as the loop does; and what they are spelled as.
use Rattle.std.proofs.Common.{◌≡◌, ℕ, zero, suc, ◌+◌, ◌-◌, ◌^◌, ◌<◌, ◌≤◌, Bool, true, false, cond, ltb, List, [], ◌∷◌, ◌++◌, length, take, drop, Result, Ok}
use Rattle.std.proofs.Common.{Err, refl, sym, ap, subst, ◌∙◌, append_assoc, arith}
use Rattle.std.specs.Int.{w64, to_be_bytes, from_be_bytes}
use Rattle.std.proofs.lemmas.Bool.{le-ltb, ltb-false}
use Rattle.std.proofs.lemmas.Bool.Decides.{nat_tests}
use Rattle.std.proofs.lemmas.List.{take_at, drop_at, take-append-drop, drop-drop, length-append, length-take, length-drop}
use Rattle.std.proofs.lemmas.Nat.{be_bytes_8, from_be_bytes-to_be_bytes_8}
use Rattle.refusal.proofs.AnswersInTurn.{bind-ok}
use Rattle.fdt_header.specs.declared.fault.FdtFault.{FdtFault}
use Rattle.fdt_header.specs.declared.fault.FdtFault.TheVariants.{BadReserve}
use Rattle.fdt_tree.specs.declared.tree.Reservation.{Reservation}
use Rattle.refusal.specs.Answer.{◌>>=◌, with_front}
use Rattle.fdt_tree.specs.Reservations.{AreReservations, SpellsReservations, pair_text, pair_at, pairs_at, is_end}
use Rattle.fdt_tree.proofs.SpellingOfScan.{IsBytes}
use Rattle.fdt_header.proofs.Checks.{unless}
use Rattle.fdt_tree.proofs.SpellingOfToken.{IsBytes-drop, IsBytes-take}

-- ---- the loop

abbrev next_pairs : ℕ → Reservation × List ℕ → Result (List Reservation) FdtFault
next_pairs n x = cond (is_end x.0) (Ok []) (pairs_at n x.1 >>= λ rs. Ok (x.0 ∷ rs))

one_more : (count i : ℕ) (bytes : List ℕ) → i < count → pairs_at (count - i) bytes ≡ (pair_at bytes >>= next_pairs (count - (i + 1)))
unfolding pairs_at
one_more count i bytes lt = let k : count - i ≡ suc (count - (i + 1)) = omega arith in rw k refl

pub pairs_go_on : (count i : ℕ) (bytes rest : List ℕ) (r : Reservation) → i < count → pair_at bytes ≡ Ok (r, rest) → is_end r ≡ false
    → pairs_at (count - i) bytes ≡ with_front (r ∷ []) (pairs_at (count - (i + 1)) rest)
pairs_go_on count i bytes rest r lt h more = one_more count i bytes lt ∙ rw (h, more) refl

pub pairs_fail : (count i : ℕ) (bytes : List ℕ) (f : FdtFault) → i < count → pair_at bytes ≡ Err f → pairs_at (count - i) bytes ≡ Err f
pairs_fail count i bytes f lt h = one_more count i bytes lt ∙ rw h refl

pub pairs_end : (count i : ℕ) (bytes rest : List ℕ) (r : Reservation) → i < count → pair_at bytes ≡ Ok (r, rest) → is_end r ≡ true
    → pairs_at (count - i) bytes ≡ Ok []
pairs_end count i bytes rest r lt h last = one_more count i bytes lt ∙ rw (h, last) refl

pub pairs_over : (count i : ℕ) (bytes : List ℕ) → count ≤ i → pairs_at (count - i) bytes ≡ Err BadReserve
unfolding pairs_at
pairs_over count i bytes le = let k : count - i ≡ 0 = omega arith in rw k refl

-- ---- what is spelled is read

abbrev guarded : ℕ → ℕ → List ℕ → Result (Reservation × List ℕ) FdtFault
guarded k m bytes =
    cond (ltb (length bytes) m) (Err BadReserve)
    (Ok (record { address = from_be_bytes w64 (take k bytes); size = from_be_bytes w64 (take k (drop k bytes)) }, drop m bytes))

-- with the widths as variables: at numerals the bytes compute to single cells, and rw finds nothing
cut : (xs ys rest : List ℕ) (k m : ℕ) → length xs ≡ k → length ys ≡ k → k + k ≡ m
    → guarded k m (xs ++ (ys ++ rest)) ≡ Ok (record { address = from_be_bytes w64 xs; size = from_be_bytes w64 ys }, rest)
cut xs ys rest k m a b s =
    let long : ltb (length (xs ++ (ys ++ rest))) m ≡ false = le-ltb _ _ (omega (arith, length-append xs (ys ++ rest), length-append ys rest)) in
    let whole : xs ++ (ys ++ rest) ≡ (xs ++ ys) ++ rest = sym (append_assoc xs ys rest) in
    let behind : drop m (xs ++ (ys ++ rest)) ≡ rest = ap (drop m) whole ∙ drop_at (xs ++ ys) rest m (omega (arith, length-append xs ys)) in
    rw (long, behind, take_at xs (ys ++ rest) k a, drop_at xs (ys ++ rest) k a, take_at ys rest k b) refl

pair_again : (r : Reservation) (rest : List ℕ) → r.address < 2 ^ 64 → r.size < 2 ^ 64 → pair_at (pair_text r ++ rest) ≡ Ok (r, rest)
unfolding pair_at
pair_again r rest a s =
    ap pair_at (append_assoc (to_be_bytes w64 r.address) (to_be_bytes w64 r.size) rest)
    ∙ cut (to_be_bytes w64 r.address) (to_be_bytes w64 r.size) rest 8 16 refl refl refl
    ∙ ap (λ (n : ℕ). Ok (record { address = n; size = from_be_bytes w64 (to_be_bytes w64 r.size) }, rest)) (from_be_bytes-to_be_bytes_8 r.address a)
    ∙ ap (λ (n : ℕ). Ok (record { address = r.address; size = n }, rest)) (from_be_bytes-to_be_bytes_8 r.size s)

not_end : (r : Reservation) → 0 < r.address + r.size → is_end r ≡ false
not_end r h = grind (arith, nat_tests)

pub pairs_again : (rs : List Reservation) (block : List ℕ) (n : ℕ) → SpellsReservations block rs → length block ≤ n → pairs_at n block ≡ Ok rs
unfolding pairs_at
pairs_again [] block zero s le = absurd (omega (arith, ap length s.1, length-append (pair_text (record { address = 0; size = 0 })) s.0))
pairs_again [] block (suc n) s le = rw (s.1, pair_again (record { address = 0; size = 0 }) s.0 (omega arith) (omega arith)) refl
pairs_again (r ∷ rs) block zero s le = absurd (omega (arith, ap length s.3, length-append (pair_text r) s.0))
pairs_again (r ∷ rs) block (suc n) s le =
    let later : pairs_at n s.0 ≡ Ok rs = pairs_again rs s.0 n s.2 (omega (arith, ap length s.3, length-append (pair_text r) s.0)) in
    rw (s.3, pair_again r s.0 s.1.0 s.1.1, not_end r s.1.2, later) refl

-- ---- what is read is spelled so

record TookPair (bytes : List ℕ) (r : Reservation) (rest : List ℕ) : Type 0 where
  parts : bytes ≡ pair_text r ++ rest
  address : r.address < 2 ^ 64
  size : r.size < 2 ^ 64
  rest_fits : IsBytes rest

number_below : (bs : List ℕ) → IsBytes bs → from_be_bytes w64 bs < 2 ^ 64
number_below bs h = omega (arith, h 0, h 1, h 2, h 3, h 4, h 5, h 6, h 7)

number_text : (bs : List ℕ) → IsBytes bs → length bs ≡ 8 → to_be_bytes w64 (from_be_bytes w64 bs) ≡ bs
number_text bs h len = be_bytes_8 bs _ len h refl

abbrev made : Reservation × List ℕ → Result (Reservation × List ℕ) FdtFault
made x = Ok x

pair_takes : (bytes : List ℕ) (r : Reservation) (rest : List ℕ) → IsBytes bytes → pair_at bytes ≡ Ok (r, rest) → TookPair bytes r rest
unfolding pair_at
pair_takes bytes r rest fits e =
    let a = take 8 bytes in
    let b = take 8 (drop 8 bytes) in
    let own : Reservation = record { address = from_be_bytes w64 a; size = from_be_bytes w64 b } in
    let g = unless (ltb (length bytes) 16) BadReserve (made (own, drop 16 bytes)) (r, rest) e in
    let long : 16 ≤ length bytes = ltb-false _ _ g.0 in
    let a_fits = IsBytes-take 8 bytes fits in
    let b_fits = IsBytes-take 8 (drop 8 bytes) (IsBytes-drop 8 bytes fits) in
    let a_text : to_be_bytes w64 (from_be_bytes w64 a) ≡ a = number_text a a_fits (omega (arith, length-take 8 bytes)) in
    let b_text : to_be_bytes w64 (from_be_bytes w64 b) ≡ b = number_text b b_fits (omega (arith, length-take 8 (drop 8 bytes), length-drop 8 bytes)) in
    let whole : bytes ≡ a ++ (b ++ drop 16 bytes) =
    sym (take-append-drop 8 bytes)
    ∙ ap (λ (x : List ℕ). a ++ x) (sym (take-append-drop 8 (drop 8 bytes)) ∙ ap (λ (x : List ℕ). b ++ x) (drop-drop 8 8 bytes)) in
    let parts : bytes ≡ pair_text own ++ drop 16 bytes =
    whole ∙ sym (append_assoc a b (drop 16 bytes))
    ∙ ap (λ (x : List ℕ). x ++ drop 16 bytes)
    (ap (λ (x : List ℕ). x ++ b) (sym a_text) ∙ ap (λ (x : List ℕ). to_be_bytes w64 (from_be_bytes w64 a) ++ x) (sym b_text)) in
    let took : TookPair bytes own (drop 16 bytes) =
    record { parts = parts; address = number_below a a_fits; size = number_below b b_fits; rest_fits = IsBytes-drop 16 bytes fits } in
    let q : (let x : Reservation × List ℕ = (own, drop 16 bytes) in x) ≡ (r, rest) = same (own, drop 16 bytes) (r, rest) g.1 in
    subst (λ (x : Reservation × List ℕ). TookPair bytes x.0 x.1) q took
  where
    same : (x y : Reservation × List ℕ) → made x ≡ made y → x ≡ y
    same x y q = cc

zero_pair : (r : Reservation) → is_end r ≡ true → r ≡ record { address = 0; size = 0 }
zero_pair r h = let a : r.address ≡ 0 = grind (arith, nat_tests) in let s : r.size ≡ 0 = grind (arith, nat_tests) in rw (a, s) refl

some_pair : (r : Reservation) → is_end r ≡ false → 0 < r.address + r.size
some_pair r h = grind (arith, nat_tests)

pub pairs_take : (n : ℕ) (block : List ℕ) (rs : List Reservation) → IsBytes block → pairs_at n block ≡ Ok rs → SpellsReservations block rs
unfolding pairs_at
pairs_take zero block rs fits e = absurd cc
pairs_take (suc n) block rs fits e =
    let a = bind-ok (pair_at block) (next_pairs n) rs e in
    let t = pair_takes block a.0.0 a.0.1 fits a.1 in
    go (is_end a.0.0) refl a.2 t (pairs_take n)
  where
    go : {r : Reservation} {rest : List ℕ} (b : Bool) → is_end r ≡ b → cond b (Ok []) (pairs_at n rest >>= λ rs. Ok (r ∷ rs)) ≡ Ok rs → TookPair block r rest
        → ((bs : List ℕ) (us : List Reservation) → IsBytes bs → pairs_at n bs ≡ Ok us → SpellsReservations bs us) → SpellsReservations block rs
    go {r} {rest} true h q t ih =
        let none_left : [] ≡ rs = cc in
        subst (λ (us : List Reservation). SpellsReservations block us) none_left (rest, t.parts ∙ ap (λ (x : Reservation). pair_text x ++ rest) (zero_pair r h))
    go {r} {rest} false h q t ih =
        let b = bind-ok (pairs_at n rest) (λ us. Ok (r ∷ us)) rs q in
        let whole : r ∷ b.0 ≡ rs = cc (b.2) in
        subst (λ (us : List Reservation). SpellsReservations block us) whole (rest, (t.address, t.size, some_pair r h), ih rest b.0 t.rest_fits b.1, t.parts)

pub spelled_are : (rs : List Reservation) (block : List ℕ) → SpellsReservations block rs → AreReservations rs
spelled_are [] block s = tt
spelled_are (r ∷ rs) block s = (s.1, spelled_are rs s.0 s.2)

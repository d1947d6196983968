-- The measured pages of parameters are pages of bytes, and determine the parameters.
use Rattle.std.proofs.Common.{◌≡◌, ℕ, zero, suc, ◌<◌, ◌∙◌, true, List, [], ◌∷◌, length, get_or, refl, sym, ap, arith}
use Rattle.std.proofs.lemmas.Grind.{same_number_lists}
use Rattle.std.specs.Prelude.{slice_index}
use Rattle.rim_desc.specs.Measurement.{algo_value}
use Rattle.rim_desc.specs.Page.{zeros}
use Rattle.rim_desc.specs.Realm.{realm_fields, realm_page_of}
use Rattle.rim_desc.specs.Rec.{RecData, rec_fields, rec_page_of}
use Rattle.rim_desc.specs.declared.measurement.Algo.{Algo}
use Rattle.rim_desc.specs.declared.measurement.Algo.TheVariants.{Sha256, Sha512}
use Rattle.rim_desc.specs.declared.page.TheConstants.{PAGE_SIZE}
use Rattle.rim_desc.specs.declared.realm.RealmParams.{RealmParams}
use Rattle.rim_desc.proofs.BytesBesideFields.{length-zeros}
use Rattle.rmi_line.specs.Typed.{IsByte, IsWord}
use Rattle.rim_binding.specs.Chain.{IsPage}
use Rattle.rim_binding.specs.Event.{FitsParams, FitsRec, MeasuredParams, MeasuredRec, params_page, start_page}
use Rattle.rim_binding.proofs.FieldsOfPages.{HasSlots, are_in_order, same_parts}
use Rattle.rim_binding.proofs.MessagesAreBytes.{bytes-with_fields, length-with_fields, one-byte, word-bytes, zeros-bytes}
use Rattle.rim_binding.proofs.OneMessageOneExtension.{at, parts_of, same_word}

abbrev blank : List ℕ
blank = zeros PAGE_SIZE

-- ---- a realm

-- the parameters with nothing in the place of those that are not measured
abbrev bare_params : MeasuredParams → RealmParams
bare_params m = record {
  flags = m.flags;
  s2sz = m.s2sz;
  numbers = m.numbers;
  rtt_level_start = 0;
  rtt_num_start = 0;
  algo = m.algo;
  rpv = [];
  rtt_base = 0;
}

realm_slots : List (ℕ × ℕ)
realm_slots = (0x0, 8) ∷ (0x8, 1) ∷ (0x10, 1) ∷ (0x18, 1) ∷ (0x20, 1) ∷ (0x28, 1) ∷ (0x30, 1) ∷ []

realm-slots : (m : MeasuredParams) → HasSlots realm_slots (realm_fields (bare_params m))
unfolding realm_slots
realm-slots m = (refl, refl, (refl, refl, (refl, refl, (refl, refl, (refl, refl, (refl, refl, (refl, refl, tt)))))))

realm-order : are_in_order 4096 0 realm_slots ≡ true
unfolding realm_slots
realm-order = refl

algo-byte : (algo : Algo) → IsByte (algo_value algo)
algo-byte Sha256 = omega arith
algo-byte Sha512 = omega arith

same_algo : (a b : Algo) → algo_value a ∷ [] ≡ algo_value b ∷ [] → a ≡ b
same_algo Sha256 Sha256 same = refl
same_algo Sha256 Sha512 same = absurd (cc)
same_algo Sha512 Sha256 same = absurd (cc)
same_algo Sha512 Sha512 same = refl

pub params-page : (m : MeasuredParams) → FitsParams m → IsPage (params_page m)
unfolding realm_page_of
params-page m fits = (
  length-with_fields (realm_fields (bare_params m)) blank 4096 (length-zeros 4096)
      (omega arith, (omega arith, (omega arith, (omega arith, (omega arith, (omega arith, (omega arith, tt))))))),
  bytes-with_fields (realm_fields (bare_params m)) blank (zeros-bytes 4096) (
    word-bytes m.flags,
    (
      one-byte m.s2sz fits.s2sz,
      (
        one-byte m.numbers.sve_vl (fits.numbers 0 0 (omega arith)),
        (
          one-byte m.numbers.num_bps (fits.numbers 1 0 (omega arith)),
          (
            one-byte m.numbers.num_wps (fits.numbers 2 0 (omega arith)),
            (one-byte m.numbers.pmu_num_ctrs (fits.numbers 3 0 (omega arith)), (one-byte (algo_value m.algo) (algo-byte m.algo), tt)),
          ),
        ),
      ),
    ),
  ),
)

realm-parts : (m n : MeasuredParams) → params_page m ≡ params_page n → parts_of (realm_fields (bare_params m)) ≡ parts_of (realm_fields (bare_params n))
unfolding realm_page_of
realm-parts m n same =
    same_parts realm_slots (realm_fields (bare_params m)) (realm_fields (bare_params n)) blank blank 4096 0 realm-order (length-zeros 4096) (length-zeros 4096)
    (realm-slots m) (realm-slots n) same

-- the number in a part of one byte
number : List ℕ → ℕ
number part = get_or part 0 0

pub same_params : (m n : MeasuredParams) → FitsParams m → FitsParams n → params_page m ≡ params_page n → m ≡ n
unfolding at number
same_params m n m_fits n_fits same =
    let parts : parts_of (realm_fields (bare_params m)) ≡ parts_of (realm_fields (bare_params n)) = realm-parts m n same in
    let flags : m.flags ≡ n.flags = same_word m.flags n.flags m_fits.flags n_fits.flags (ap (at 0) parts) in
    let s2sz : m.s2sz ≡ n.s2sz = ap (λ ps. number (at 1 ps)) parts in
    let sve_vl : m.numbers.sve_vl ≡ n.numbers.sve_vl = ap (λ ps. number (at 2 ps)) parts in
    let num_bps : m.numbers.num_bps ≡ n.numbers.num_bps = ap (λ ps. number (at 3 ps)) parts in
    let num_wps : m.numbers.num_wps ≡ n.numbers.num_wps = ap (λ ps. number (at 4 ps)) parts in
    let pmu_num_ctrs : m.numbers.pmu_num_ctrs ≡ n.numbers.pmu_num_ctrs = ap (λ ps. number (at 5 ps)) parts in
    let algo : m.algo ≡ n.algo = same_algo m.algo n.algo (ap (at 6) parts) in
    (λ i. record {
      flags = flags i;
      s2sz = s2sz i;
      numbers = record { sve_vl = sve_vl i; num_bps = num_bps i; num_wps = num_wps i; pmu_num_ctrs = pmu_num_ctrs i };
      algo = algo i;
    })

-- ---- a REC

abbrev bare_rec : MeasuredRec → RecData
bare_rec m = record { flags = m.flags; mpidr = 0; pc = m.pc; gprs = m.x; aux = [] }

rec_slots : List (ℕ × ℕ)
rec_slots = (0x0, 8) ∷ (0x200, 8) ∷ (0x300, 8) ∷ (0x308, 8) ∷ (0x310, 8) ∷ (0x318, 8) ∷ (0x320, 8) ∷ (0x328, 8) ∷ (0x330, 8) ∷ (0x338, 8) ∷ []

rec-slots : (m : MeasuredRec) → HasSlots rec_slots (rec_fields (bare_rec m))
unfolding rec_slots
rec-slots m =
    (refl, refl, (refl, refl, (refl, refl, (refl, refl, (refl, refl, (refl, refl, (refl, refl, (refl, refl, (refl, refl, (refl, refl, tt))))))))))

rec-order : are_in_order 4096 0 rec_slots ≡ true
unfolding rec_slots
rec-order = refl

pub start-page : (m : MeasuredRec) → IsPage (start_page m)
unfolding rec_page_of
start-page m = (
  length-with_fields (rec_fields (bare_rec m)) blank 4096 (length-zeros 4096)
      (omega arith, (omega arith, (omega arith, (omega arith, (omega arith, (omega arith, (omega arith, (omega arith, (omega arith, (omega arith, tt)))))))))),
  bytes-with_fields (rec_fields (bare_rec m)) blank (zeros-bytes 4096) (
    word-bytes m.flags,
    (
      word-bytes m.pc,
      (
        word-bytes (slice_index m.x 0),
        (
          word-bytes (slice_index m.x 1),
          (
            word-bytes (slice_index m.x 2),
            (
              word-bytes (slice_index m.x 3),
              (
                word-bytes (slice_index m.x 4),
                (
                  word-bytes (slice_index m.x 5),
                  (
                    word-bytes (slice_index m.x 6),
                    (word-bytes (slice_index m.x 7), tt),
                  ),
                ),
              ),
            ),
          ),
        ),
      ),
    ),
  ),
)

rec-parts : (m n : MeasuredRec) → start_page m ≡ start_page n → parts_of (rec_fields (bare_rec m)) ≡ parts_of (rec_fields (bare_rec n))
unfolding rec_page_of
rec-parts m n same =
    same_parts rec_slots (rec_fields (bare_rec m)) (rec_fields (bare_rec n)) blank blank 4096 0 rec-order (length-zeros 4096) (length-zeros 4096)
    (rec-slots m) (rec-slots n) same

-- registers of which each pair is the same
same_registers : (xs ys : List ℕ) → length xs ≡ 8 → length ys ≡ 8
    → get_or xs 0 0 ≡ get_or ys 0 0 → get_or xs 1 0 ≡ get_or ys 1 0 → get_or xs 2 0 ≡ get_or ys 2 0 → get_or xs 3 0 ≡ get_or ys 3 0
    → get_or xs 4 0 ≡ get_or ys 4 0 → get_or xs 5 0 ≡ get_or ys 5 0 → get_or xs 6 0 ≡ get_or ys 6 0 → get_or xs 7 0 ≡ get_or ys 7 0 → xs ≡ ys
same_registers xs ys xs_long ys_long h0 h1 h2 h3 h4 h5 h6 h7 =
    same_number_lists xs ys (xs_long ∙ sym ys_long) (λ k low. each k (omega arith))
  where
    each : (k : ℕ) → k < 8 → get_or xs k 0 ≡ get_or ys k 0
    each zero low = h0
    each (suc zero) low = h1
    each (suc (suc zero)) low = h2
    each (suc (suc (suc zero))) low = h3
    each (suc (suc (suc (suc zero)))) low = h4
    each (suc (suc (suc (suc (suc zero))))) low = h5
    each (suc (suc (suc (suc (suc (suc zero)))))) low = h6
    each (suc (suc (suc (suc (suc (suc (suc zero))))))) low = h7
    each (suc (suc (suc (suc (suc (suc (suc (suc k)))))))) low = absurd (omega arith)

pub same_rec : (m n : MeasuredRec) → FitsRec m → FitsRec n → start_page m ≡ start_page n → m ≡ n
unfolding at
same_rec m n m_fits n_fits same =
    let parts : parts_of (rec_fields (bare_rec m)) ≡ parts_of (rec_fields (bare_rec n)) = rec-parts m n same in
    let flags : m.flags ≡ n.flags = same_word m.flags n.flags m_fits.flags n_fits.flags (ap (at 0) parts) in
    let pc : m.pc ≡ n.pc = same_word m.pc n.pc m_fits.pc n_fits.pc (ap (at 1) parts) in
    let m_long : length m.x ≡ 8 = m_fits.x.0 in
    let n_long : length n.x ≡ 8 = n_fits.x.0 in
    let one : (k : ℕ) → k < 8 → IsWord (get_or m.x k 0) = λ k low. m_fits.x.1 k 0 (omega arith) in
    let other : (k : ℕ) → k < 8 → IsWord (get_or n.x k 0) = λ k low. n_fits.x.1 k 0 (omega arith) in
    let x : m.x ≡ n.x = same_registers m.x n.x m_long n_long
    (same_word (get_or m.x 0 0) (get_or n.x 0 0) (one 0 (omega arith)) (other 0 (omega arith)) (ap (at 2) parts))
    (same_word (get_or m.x 1 0) (get_or n.x 1 0) (one 1 (omega arith)) (other 1 (omega arith)) (ap (at 3) parts))
    (same_word (get_or m.x 2 0) (get_or n.x 2 0) (one 2 (omega arith)) (other 2 (omega arith)) (ap (at 4) parts))
    (same_word (get_or m.x 3 0) (get_or n.x 3 0) (one 3 (omega arith)) (other 3 (omega arith)) (ap (at 5) parts))
    (same_word (get_or m.x 4 0) (get_or n.x 4 0) (one 4 (omega arith)) (other 4 (omega arith)) (ap (at 6) parts))
    (same_word (get_or m.x 5 0) (get_or n.x 5 0) (one 5 (omega arith)) (other 5 (omega arith)) (ap (at 7) parts))
    (same_word (get_or m.x 6 0) (get_or n.x 6 0) (one 6 (omega arith)) (other 6 (omega arith)) (ap (at 8) parts))
    (same_word (get_or m.x 7 0) (get_or n.x 7 0) (one 7 (omega arith)) (other 7 (omega arith)) (ap (at 9) parts)) in
    (λ i. record { flags = flags i; pc = pc i; x = x i })

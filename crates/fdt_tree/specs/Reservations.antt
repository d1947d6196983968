-- The memory reservation block: Devicetree Specification 0.4, section 5.3. Each number is big endian.
use Rattle.std.specs.Prelude.{◌≡◌, ℕ, zero, suc, ◌+◌, ◌^◌, ◌<◌, List, [], ◌∷◌, ◌++◌, length, take, drop, Bool, Result, Ok, Err, nat_lt, ◌==◌, ◌&&◌, if◌then◌else◌}
use Rattle.std.specs.Int.{w64, to_be_bytes, from_be_bytes}
use Rattle.fdt_header.specs.declared.fault.FdtFault.{FdtFault}
use Rattle.fdt_header.specs.declared.fault.FdtFault.TheVariants.{BadReserve}
use Rattle.fdt_tree.specs.declared.tree.Reservation.{Reservation}
use Rattle.refusal.specs.Answer.{◌>>=◌}

-- two numbers of 64 bits that are not both zero
abbrev pub IsReservation : Reservation → Type 0
IsReservation r = (r.address < 2 ^ 64) × (r.size < 2 ^ 64) × (0 < r.address + r.size)

abbrev pub AreReservations : List Reservation → Type 0
AreReservations [] = Unit {0}
AreReservations (r ∷ rs) = IsReservation r × AreReservations rs

abbrev pub pair_text : Reservation → List ℕ
pair_text r = to_be_bytes w64 r.address ++ to_be_bytes w64 r.size

-- The block spells the reservations, then a pair of zeros, then any bytes.
abbrev pub SpellsReservations : List ℕ → List Reservation → Type 0
SpellsReservations block [] = (rest : List ℕ) × (block ≡ pair_text (record { address = 0; size = 0 }) ++ rest)
SpellsReservations block (r ∷ rs) =
    (rest : List ℕ) × IsReservation r × SpellsReservations rest rs × (block ≡ pair_text r ++ rest)

-- ---- reading: the reservations; or the fault that they have no end

-- a pair and the bytes after it
unfoldable pub pair_at : List ℕ → Result (Reservation × List ℕ) FdtFault
pair_at bytes =
    if nat_lt (length bytes) 16 then Err BadReserve
    else Ok (record { address = from_be_bytes w64 (take 8 bytes); size = from_be_bytes w64 (take 8 (drop 8 bytes)) }, drop 16 bytes)

abbrev pub is_end : Reservation → Bool
is_end r = (r.address == 0) && (r.size == 0)

-- the pairs up to the pair of zeros; as many steps as bytes are enough
unfoldable pub pairs_at : ℕ → List ℕ → Result (List Reservation) FdtFault
pairs_at zero bytes = Err BadReserve
pairs_at (suc n) bytes =
    pair_at bytes >>= λ x. if is_end x.0 then Ok [] else (pairs_at n x.1 >>= λ rs. Ok (x.0 ∷ rs))

abbrev pub reservations_at : List ℕ → Result (List Reservation) FdtFault
reservations_at block = pairs_at (length block) block

-- Arithmetic of blocks. The block of n bytes that holds x has the number x / n.
use Rattle.std.proofs.Common.{◌≡◌, ℕ, zero, suc, ◌+◌, ◌-◌, ◌*◌, ◌/◌, ◌%◌, ◌<◌, ◌≤◌, ◌∙◌, sym, refl, ap, arith}
use Rattle.std.proofs.Math.Nat.{div-div-eq-div-mul, div-mul-le_self, lt-div-mul-add}
use Rattle.std.proofs.lemmas.Nat.{div-mul-add}
use Rattle.rmm_model.specs.Blocks.{down, size, span}

-- ---- sizes

pub size-pos : (l : ℕ) → 0 < size l
unfolding size
size-pos zero = omega arith
size-pos (suc zero) = omega arith
size-pos (suc (suc zero)) = omega arith
size-pos (suc (suc (suc n))) = omega arith

pub span-pos : (l : ℕ) → 0 < span l
span-pos l = omega (arith, size-pos l)

-- an entry is a whole number of entries of the next level
pub size-step : (l : ℕ) → (k : ℕ) × (size l ≡ size (suc l) * k)
unfolding size
size-step zero = (512, refl)
size-step (suc zero) = (512, refl)
size-step (suc (suc zero)) = (512, refl)
size-step (suc (suc (suc n))) = (1, refl)

-- a table covers what the entry above it covers
pub span-size : (l : ℕ) → l < 3 → span (suc l) ≡ size l
unfolding size
span-size zero h = refl
span-size (suc zero) h = refl
span-size (suc (suc zero)) h = refl
span-size (suc (suc (suc n))) h = absurd (omega arith)

-- ---- nesting

-- two addresses of one block of n are in one block of n * k
pub nest : (n k x y : ℕ) → x / n ≡ y / n → x / (n * k) ≡ y / (n * k)
nest n k x y h = sym (div-div-eq-div-mul x n k) ∙ (ap (λ (q : ℕ). q / k) h ∙ div-div-eq-div-mul y n k)

nest-up : (l x y : ℕ) → x / size (suc l) ≡ y / size (suc l) → x / size l ≡ y / size l
nest-up l x y h = rw ((size-step l).1) (nest (size (suc l)) ((size-step l).0) x y h)

nest-by : (d l x y : ℕ) → x / size (l + d) ≡ y / size (l + d) → x / size l ≡ y / size l
nest-by zero l x y h = let e : l + 0 ≡ l = omega arith in rw e at h
nest-by (suc d) l x y h =
    let e : l + suc d ≡ suc (l + d) = omega arith in
    nest-by d l x y (nest-up (l + d) x y (rw e at h))

-- one block of a level lies in one block of each level above
pub nest-le : (l m x y : ℕ) → l ≤ m → x / size m ≡ y / size m → x / size l ≡ y / size l
nest-le l m x y o h =
    let e : m ≡ l + (m - l) = omega arith in
    nest-by (m - l) l x y (rw e at h)

-- ---- rounding down

pub down-le : (n x : ℕ) → down n x ≤ x
down-le n x = div-mul-le_self x n

pub down-lt : (n x : ℕ) → 0 < n → x < down n x + n
down-lt n x h = lt-div-mul-add h

-- the addresses from a block's first on are in that block
pub in-block : (n x y : ℕ) → down n x ≤ y → y < down n x + n → y / n ≡ x / n
in-block n x y lo hi =
    let e : y ≡ down n x + (y - down n x) = omega arith in
    let lt : y - down n x < n = omega arith in
    ap (λ (z : ℕ). z / n) e ∙ div-mul-add (x / n) n (y - down n x) lt

-- rounded down, an address stays in its block
pub down-in : (n x : ℕ) → 0 < n → down n x / n ≡ x / n
down-in n x h = in-block n x (down n x) (omega arith) (omega (arith, h))

-- the first address of a block is a multiple, and a multiple is the first of its block
mod-add-div : (n x : ℕ) → x / n * n + x % n ≡ x
mod-add-div n x = grind arith

pub down-multiple : (n x : ℕ) → 0 < n → x % n ≡ 0 → down n x ≡ x
down-multiple n x h m = omega (arith, mod-add-div n x)

pub multiple-of : (n x : ℕ) → down n x ≡ x → x % n ≡ 0
multiple-of n x at = omega (arith, mod-add-div n x)

pub down-same : (n x y : ℕ) → x / n ≡ y / n → down n x ≡ down n y
down-same n x y h = rw h refl

pub down-down : (n x : ℕ) → 0 < n → down n (down n x) ≡ down n x
down-down n x h = down-same n (down n x) x (down-in n x h)

-- ---- tables

-- two addresses that one table covers are covered by one table of the level above
pub span-nest : (j x y : ℕ) → x / span (suc j) ≡ y / span (suc j) → x / span j ≡ y / span j
span-nest j x y h =
    let e : span j ≡ span (suc j) * ((size-step j).0) = grind (arith, (size-step j).1) in
    rw e (nest (span (suc j)) ((size-step j).0) x y h)

-- the first address of a table is in the table above it that covers the same address
pub down-up : (j x : ℕ) → down (span j) (down (span (suc j)) x) ≡ down (span j) x
down-up j x = down-same (span j) (down (span (suc j)) x) x (span-nest j (down (span (suc j)) x) x (down-in (span (suc j)) x (span-pos (suc j))))

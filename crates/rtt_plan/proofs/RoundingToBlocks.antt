-- Rounding down to blocks, beside what the model's proofs have.
use Rattle.std.proofs.Common.{◌≡◌, ℕ, zero, suc, ◌+◌, ◌-◌, ◌*◌, ◌/◌, ◌<◌, ◌≤◌, ◌∙◌, sym, refl, ap, arith}
use Rattle.std.proofs.Math.Nat.{div-lt_iff_lt-mul, mul-div_cancel, mul-le-mul_right, mul_assoc, mul_comm}
use Rattle.rmm_model.specs.Blocks.{down, size}
use Rattle.rmm_model.proofs.BlockArithmetic.{down-lt, size-pos, size-step}

-- rounding down keeps order, and an address before a rounded top has its block before it
pub le-down : (n x b : ℕ) → 0 < n → down n x ≡ x → x ≤ b → x ≤ down n b
le-down n x b p at h =
    let hi : b < b / n * n + n = down-lt n b p in
    let e : suc (b / n) * n ≡ b / n * n + n = omega arith in
    let lt : x < suc (b / n) * n = omega arith in
    let q : x / n < suc (b / n) = (div-lt_iff_lt-mul p).1 lt in
    let le : x / n ≤ b / n = omega arith in
    let m : x / n * n ≤ b / n * n = mul-le-mul_right n le in
    omega arith

pub down-top : (n b t : ℕ) → 0 < n → down n t ≡ t → b < t → down n b + n ≤ t
down-top n b t p at h =
    let lt : b < t / n * n = omega arith in
    let q : b / n < t / n = (div-lt_iff_lt-mul p).1 lt in
    let le : suc (b / n) ≤ t / n = omega arith in
    let m : suc (b / n) * n ≤ t / n * n = mul-le-mul_right n le in
    let e : suc (b / n) * n ≡ b / n * n + n = omega arith in
    omega arith

-- a multiple of a large size is a multiple of each smaller size
pub size-multiple : (d l : ℕ) → (k : ℕ) × (size l ≡ size (l + d) * k)
size-multiple zero l = let e : l + 0 ≡ l = omega arith in rw e (1, omega arith)
size-multiple (suc d) l =
    let e : l + suc d ≡ suc (l + d) = omega arith in
    let i : (k : ℕ) × (size l ≡ size (l + d) * k) = size-multiple d l in
    let s : (k : ℕ) × (size (l + d) ≡ size (suc (l + d)) * k) = size-step (l + d) in
    rw e (s.0 * i.0, i.1 ∙ (ap (λ (q : ℕ). q * i.0) (s.1) ∙ mul_assoc (size (suc (l + d))) (s.0) (i.0)))

pub multiple-down : (n k x : ℕ) → 0 < n → down n (k * n) ≡ k * n
multiple-down n k x p = rw (mul-div_cancel k p) refl

-- a multiple of n * k is a multiple of n
pub down-part : (n k x : ℕ) → 0 < n → down (n * k) x ≡ x → down n x ≡ x
down-part n k x p h =
    let e : x / (n * k) * (n * k) ≡ x / (n * k) * k * n = omega (arith, mul_assoc (x / (n * k)) k n, mul_comm n k) in
    let f : x ≡ x / (n * k) * k * n = sym h ∙ e in
    ap (λ (z : ℕ). down n z) f ∙ (multiple-down n (x / (n * k) * k) x p ∙ sym f)

pub down-size : (l m x : ℕ) → l ≤ m → down (size l) x ≡ x → down (size m) x ≡ x
down-size l m x o h =
    let k : (q : ℕ) × (size l ≡ size (l + (m - l)) * q) = size-multiple (m - l) l in
    let e : l + (m - l) ≡ m = omega arith in
    let f : size l ≡ size m * (k.0) = rw e at (k.1) in
    down-part (size m) (k.0) x (size-pos m) (rw f at h)

pub down-next : (n x : ℕ) → 0 < n → down n x ≡ x → down n (x + n) ≡ x + n
down-next n x p h =
    let e : x + n ≡ suc (x / n) * n = omega arith in
    rw e (multiple-down n (suc (x / n)) x p)

pub size-pages : (l : ℕ) → (q : ℕ) × (size l ≡ 4096 * suc q)
unfolding size
size-pages zero = (134217727, refl)
size-pages (suc zero) = (262143, refl)
size-pages (suc (suc zero)) = (511, refl)
size-pages (suc (suc (suc n))) = (0, refl)

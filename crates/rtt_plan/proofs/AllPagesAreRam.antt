-- Whether all pages of a range are RAM is decided from one range of RAM to the next.
use Rattle.std.proofs.Common.{◌≡◌, ℕ, zero, suc, ◌+◌, ◌-◌, ◌*◌, ◌/◌, ◌%◌, ◌<◌, ◌≤◌, refl, arith, Bool, true, false, List}
use Rattle.std.specs.List.{list_all}
use Rattle.rmm_model.specs.Blocks.{granules}
use Rattle.rmm_model.specs.Space.{is_ram}
use Rattle.rtt_plan.specs.inside.PageRanges.{IsRamTo}

-- the first q of n pages pass, so the others decide
all-skip : (p : ℕ → Bool) (q n x : ℕ) → ((k : ℕ) → k < q → p (x + 4096 * k) ≡ true) → list_all p (granules n x) ≡ list_all p (granules (n - q) (x + 4096 * q))
unfolding granules
all-skip p zero n x pass =
    let e : n - 0 ≡ n = omega arith in
    let f : x + 4096 * 0 ≡ x = omega arith in
    rw (e, f) refl
all-skip p (suc q) zero x pass = let e : 0 - suc q ≡ 0 = omega arith in rw e refl
all-skip p (suc q) (suc n) x pass =
    let e : suc n - suc q ≡ n - q = omega arith in
    let f : x + 4096 * suc q ≡ x + 4096 + 4096 * q = omega arith in
    let z : x + 4096 * 0 ≡ x = omega arith in
    let here : p x ≡ true = rw z at (pass 0 (omega arith)) in
    let i : list_all p (granules n (x + 4096)) ≡ list_all p (granules (n - q) (x + 4096 + 4096 * q)) =
    all-skip p q n (x + 4096) (λ k h. let s : x + 4096 + 4096 * k ≡ x + 4096 * suc k = omega arith in rw s (pass (suc k) (omega arith))) in
    rw (e, f, here) i

-- how many pages there are from x to the end
abbrev pub pages_to : ℕ → ℕ → ℕ
pages_to end x = (end - x) / 4096

-- after a range of RAM the pages from its end on decide
pub all-ram_to : (ram : List (ℕ × ℕ)) (end x top : ℕ) → x % 4096 ≡ 0 → IsRamTo ram x top
    → list_all (is_ram ram) (granules (pages_to end x) x) ≡ list_all (is_ram ram) (granules (pages_to end top) top)
all-ram_to ram end x top at to =
    let past : x < top = to.past in
    let whole : top % 4096 ≡ 0 = to.whole in
    let e : x + 4096 * ((top - x) / 4096) ≡ top = omega arith in
    let f : (end - x) / 4096 - (top - x) / 4096 ≡ (end - top) / 4096 = omega arith in
    rw e at (rw f at (all-skip (is_ram ram) ((top - x) / 4096) (pages_to end x) x (λ k h. to.all (x + 4096 * k) (omega arith) (omega arith))))

-- a page that is not RAM decides
pub all-stop : (ram : List (ℕ × ℕ)) (end x : ℕ) → x % 4096 ≡ 0 → end % 4096 ≡ 0 → x < end → is_ram ram x ≡ false → list_all (is_ram ram) (granules (pages_to end x) x) ≡ false
unfolding granules
all-stop ram end x at end_at some none =
    let e : (end - x) / 4096 ≡ suc ((end - x) / 4096 - 1) = omega arith in
    rw e (rw none refl)

-- no page is left
pub all-end : (ram : List (ℕ × ℕ)) (end x : ℕ) → end ≤ x → list_all (is_ram ram) (granules (pages_to end x) x) ≡ true
unfolding granules
all-end ram end x h = let e : (end - x) / 4096 ≡ 0 = (let f : end - x ≡ 0 = omega arith in rw f refl) in rw e refl

-- Sizes of entries and tables. DEN0137, "RTT levels", for granules and pages of 4096 bytes.
use Rattle.std.specs.Prelude.{ℕ, zero, suc, ◌+◌, ◌*◌, ◌/◌, ◌%◌, ◌^◌, ◌==◌, Bool, List, [], ◌∷◌}
use Rattle.rim_desc.specs.declared.page.TheConstants.{PAGE_SIZE}
use Rattle.rmm_model.specs.declared.size.TheConstants.{TABLE_ENTRIES}

-- the bytes that an entry of a level covers: 512 GiB, 1 GiB, 2 MiB, and 4 KiB at level 3
unfoldable pub size : ℕ → ℕ
size zero = 2 ^ 39
size (suc zero) = 2 ^ 30
size (suc (suc zero)) = 2 ^ 21
size (suc (suc (suc n))) = 2 ^ 12

-- the bytes that a table of a level covers
abbrev pub span : ℕ → ℕ
span l = size l * TABLE_ENTRIES

-- x rounded down to the first address of the block of n bytes that holds it
abbrev pub down : ℕ → ℕ → ℕ
down n x = x / n * n

-- whether x is a multiple of n
abbrev pub is_multiple : ℕ → ℕ → Bool
is_multiple n x = x % n == 0

-- the first addresses of n granules, or of n pages, side by side from x on
unfoldable pub granules : ℕ → ℕ → List ℕ
granules zero x = []
granules (suc n) x = x ∷ granules n (x + PAGE_SIZE)

-- n stretches of s bytes, one after the other from x on: the first address of each and the first past it
unfoldable pub stretches : ℕ → ℕ → ℕ → List (ℕ × ℕ)
stretches zero s x = []
stretches (suc n) s x = (x, x + s) ∷ stretches n s (x + s)

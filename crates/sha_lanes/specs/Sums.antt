-- Blocks that are known beforehand, or whose schedule is computed before the rounds. A round adds its constant and its
-- word of the schedule (FIPS 180-4, 6.2.2 and 6.4.2, step 3), and the sums of the two are known by then.
use Rattle.std.specs.Prelude.{◌≡◌, ℕ, List}
use Rattle.std.specs.Simd.Lanes.{zip2}
use Rattle.sha2.specs.Sha256.{add32, round_constants, schedule}
use Rattle.sha2.specs.Sha512 as S512

-- each word of a block's schedule with its round's constant
abbrev pub AreSums256 : List ℕ → List ℕ → Type 0
AreSums256 sums block = sums ≡ zip2 add32 round_constants (schedule block 48)

-- the same of SHA-512
abbrev pub AreSums512 : List ℕ → List ℕ → Type 0
AreSums512 sums block = sums ≡ zip2 S512.add64 S512.round_constants (S512.schedule block 64)

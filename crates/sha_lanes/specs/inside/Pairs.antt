-- Words of a schedule in the lanes of vectors. This project's choice.
use Rattle.std.specs.Prelude.{◌≡◌, ℕ, ◌<◌, List, [], ◌∷◌, length, slice_index}
use Rattle.sha2.specs.Sha256 as S256
use Rattle.sha2.specs.Sha512 as S512

-- lanes p and q of each vector in turn
abbrev pub flat : ℕ → ℕ → List (List ℕ) → List ℕ
flat p q [] = []
flat p q (x ∷ w) = slice_index x p ∷ slice_index x q ∷ flat p q w

-- the first t of n sums: each word with its round's constant
abbrev pub AreSumsBelow : ℕ → (ℕ → ℕ → ℕ) → List ℕ → List ℕ → List ℕ → ℕ → Type 0
AreSumsBelow n add constants words sums t = (length sums ≡ n)
    × ((k : ℕ) → k < t → slice_index sums k ≡ add (slice_index constants k) (slice_index words k))

-- the first t sums of SHA-256, with the words of block b's schedule
abbrev pub AreSumsBelow256 : List ℕ → List ℕ → ℕ → Type 0
AreSumsBelow256 sums b t = AreSumsBelow 64 S256.add32 S256.round_constants (S256.schedule b 48) sums t

-- the same of SHA-512
abbrev pub AreSumsBelow512 : List ℕ → List ℕ → ℕ → Type 0
AreSumsBelow512 sums b t = AreSumsBelow 80 S512.add64 S512.round_constants (S512.schedule b 64) sums t

-- lanes l and r of the ring w hold the last 16 words before word t of block b's schedule, and the sums before t are known
abbrev pub IsScheduledTo256 : ℕ → ℕ → List ℕ → List (List ℕ) → List ℕ → ℕ → Type 0
IsScheduledTo256 l r b w sums t = S256.IsWindow (flat l r w) (S256.schedule b 48) t × AreSumsBelow256 sums b t

-- the same of SHA-512, in lanes 0 and 1
abbrev pub IsScheduledTo512 : List ℕ → List (List ℕ) → List ℕ → ℕ → Type 0
IsScheduledTo512 b w sums t = S512.IsWindow (flat 0 1 w) (S512.schedule b 64) t × AreSumsBelow512 sums b t

-- The slots for the digests of a run's files. This project's choice; a digest is one of SHA-256 (FIPS 180-4).
use Rattle.std.specs.Prelude.{◌≡◌, ℕ, List, length, Option, Some, option_map, slice_get}
use Rattle.sha2.specs.Sha256.{sha256}

-- a digest is that of the file of a number
abbrev pub IsDigestOf : List (List ℕ) → ℕ → List ℕ → Type 0
IsDigestOf files number digest = option_map sha256 (slice_get files number) ≡ Some digest

-- each file has a slot, and a slot that is filled has the digest of its own file
pub record AreSlotsOf (files : List (List ℕ)) (slots : List (Option (List ℕ))) : Type 0 where
  pub size : length slots ≡ length files
  pub own : (number : ℕ) (digest : List ℕ) → slice_get slots number ≡ Some (Some digest) → IsDigestOf files number digest

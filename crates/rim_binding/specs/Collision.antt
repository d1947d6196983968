-- A collision of a hash algorithm, as data: no law here assumes that SHA-2 has none. FIPS 180-4 defines the digests.
use Rattle.std.specs.Prelude.{◌≡◌, ◌≢◌, ℕ, List}
use Rattle.std.specs.List.{All}
use Rattle.sha2.specs.Sha256.{sha256}
use Rattle.sha2.specs.Sha512.{sha512}
use Rattle.rim_desc.specs.declared.measurement.Algo.{Algo}
use Rattle.rim_desc.specs.declared.measurement.Algo.TheVariants.{Sha256, Sha512}
use Rattle.rmi_line.specs.Typed.{IsByte}

abbrev pub digest_of : Algo → List ℕ → List ℕ
digest_of Sha256 message = sha256 message
digest_of Sha512 message = sha512 message

-- two different lists of bytes with the same digest
pub record Collision (algo : Algo) : Type 0 where
  pub first : List ℕ
  pub second : List ℕ
  pub first_bytes : All IsByte first
  pub second_bytes : All IsByte second
  pub differ : first ≢ second
  pub same : digest_of algo first ≡ digest_of algo second

-- A collision between a message of P and a message of Q. The laws name the messages that were hashed. Without that, a
-- law would hold for any two digests, because some two lists of bytes always collide.
pub record CollisionBetween (algo : Algo) (P Q : List ℕ → Type 0) : Type 0 where
  pub collision : Collision algo
  pub first_in : P collision.first
  pub second_in : Q collision.second

-- Measurements. DEN0137, "Realm measurements": a measurement has 64 bytes; a digest that is shorter
-- is followed by zero bytes. SHA-256 and SHA-512 are those of FIPS 180-4.
use Rattle.std.specs.Prelude.{ℕ, List, ◌++◌, codes}
use Rattle.sha2.specs.Sha256.{sha256}
use Rattle.sha2.specs.Sha512.{sha512}
use Rattle.rim_desc.specs.Page.{zeros}
use Rattle.rim_desc.specs.declared.measurement.Algo.{Algo}
use Rattle.rim_desc.specs.declared.measurement.Algo.TheVariants.{Sha256, Sha512}

-- the number of an algorithm. DEN0137, RmiHashAlgorithm
abbrev pub algo_value : Algo → ℕ
algo_value Sha256 = 0
algo_value Sha512 = 1

-- the word of an algorithm in manifests, reports and listings. This project's choice
abbrev pub algo_word : Algo → List ℕ
algo_word Sha256 = codes "sha256"
algo_word Sha512 = codes "sha512"

-- the measurement of some bytes: their digest, and zero bytes up to 64
abbrev pub measurement_of : Algo → List ℕ → List ℕ
measurement_of Sha256 message = sha256 message ++ zeros 32
measurement_of Sha512 message = sha512 message

-- What the value at a key reads as. It is read where no fault holds; a value that is of another kind or out of its
-- range reads as the default. This project's choice.
use Rattle.std.specs.Prelude.{ℕ, Bool, false, ◌&&◌, ℤ, pos, negsuc, nat_le, List, [], ◌∷◌, Option, Some, None, unwrap_or, if◌then◌else◌}
use Rattle.std.specs.Result.{result_unwrap_or}
use Rattle.std.specs.Str.{bytes_eq}
use Rattle.hex.specs.Hex.{decode_sized}
use Rattle.toml.specs.Data.{Data, string, integer, boolean, at, get}
use Rattle.rim_rules.specs.Forms.{is_pool_base, items_in}
use Rattle.rim_rules.specs.Words.{word_of}
use Rattle.rim_desc.specs.Page.{zeros}
use Rattle.rim_desc.specs.declared.measurement.Algo.{Algo}
use Rattle.rim_desc.specs.declared.measurement.Algo.TheVariants.{Sha256, Sha512}
use Rattle.rim_desc.specs.Measurement.{algo_word}

-- the text at a key, or no text
abbrev pub text_in : Option Data → List ℕ
text_in (Some (string s)) = s
text_in _ = []

-- whether a whole number is from `low` to `high`
abbrev pub is_from : ℕ → ℕ → ℤ → Bool
is_from low high (pos n) = nat_le low n && nat_le n high
is_from low high (negsuc n) = false

-- the number at a key that is from `low` to `high`, or a default
abbrev pub number_in : ℕ → ℕ → ℕ → Option Data → ℕ
number_in low high default (Some (integer (pos n))) = if is_from low high (pos n) then n else default
number_in low high default _ = default

-- the values of the array at a key
abbrev pub array_at : List ℕ → Data → List Data
array_at key d = items_in (get key d)

abbrev pub truth_in : Bool → Option Data → Bool
truth_in default (Some (boolean b)) = b
truth_in default _ = default

-- a whole number, or 0
abbrev pub whole_in : Option Data → ℕ
whole_in (Some (integer (pos n))) = n
whole_in _ = 0

-- the address of a pool, or the default
abbrev pub base_in : Option Data → ℕ
base_in (Some (integer (pos n))) = if is_pool_base n then n else 0x800000000
base_in _ = 0x800000000

-- the word at a key, if any
abbrev pub word_in : Option Data → Option ℕ
word_in (Some d) = word_of d
word_in None = None

-- the word at a place of an array, or 0
abbrev pub word_at : Data → ℕ → ℕ
word_at d i = unwrap_or (word_in (at i d)) 0

-- the eight words that the array at a key begins, if any; the rest are zero
abbrev pub words_in : Option Data → Option (List ℕ)
words_in (Some d) = Some (word_at d 0 ∷ word_at d 1 ∷ word_at d 2 ∷ word_at d 3 ∷ word_at d 4 ∷ word_at d 5 ∷ word_at d 6 ∷ word_at d 7 ∷ [])
words_in None = None

abbrev pub algorithm_in : Option Data → Algo
algorithm_in (Some (string s)) = if bytes_eq s (algo_word Sha512) then Sha512 else Sha256
algorithm_in _ = Sha256

-- the 64 bytes that the digits at a key spell, or zeros
abbrev pub digits_in : Option Data → List ℕ
digits_in (Some (string s)) = result_unwrap_or (decode_sized s 64) (zeros 64)
digits_in _ = zeros 64

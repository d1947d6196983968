-- What is read is in its range, whatever value its key has. This project's choice.
use Rattle.std.specs.Prelude.{◌≡◌, ℕ, ◌%◌, ◌^◌, ◌≤◌, ◌<◌, Bool, true, false, ◌&&◌, pos, nat_le, Option, Some, if◌then◌else◌, refl}
use Rattle.std.proofs.lemmas.Bool.{and_parts, eqb-true, leb-true, ltb-true}
use lib.Pow.{lt_of_le_ones}
use Rattle.toml.specs.Data.{Data, integer}
use Rattle.rim_launch.specs.declared.item.Region.{Region}
use Rattle.rim_rules.specs.Forms.{is_pool_base, is_region}
use Rattle.rim_rules.specs.Values.{base_in, number_in}

abbrev pub is_within : ℕ → ℕ → ℕ → Bool
is_within low high n = nat_le low n && nat_le n high

picked : (low high n default : ℕ) (b : Bool) → is_within low high n ≡ b → is_within low high default ≡ true
    → is_within low high (if b then n else default) ≡ true
picked low high n default true e h = e
picked low high n default false e h = h

pub number_within : (low high default : ℕ) (o : Option Data) → is_within low high default ≡ true
    → is_within low high (number_in low high default o) ≡ true
number_within low high default (Some (integer (pos n))) h = picked low high n default (is_within low high n) refl h
number_within low high default _ h = h

pub number_to : (low high default : ℕ) (o : Option Data) → is_within low high default ≡ true
    → number_in low high default o ≤ high
number_to low high default o h = leb-true _ _ (and_parts _ _ (number_within low high default o h)).1

picked_base : (n : ℕ) (b : Bool) → is_pool_base n ≡ b → is_pool_base (if b then n else 0x800000000) ≡ true
picked_base n true e = e
picked_base n false e = refl

pub base_within : (o : Option Data) → is_pool_base (base_in o) ≡ true
base_within (Some (integer (pos n))) = picked_base n (is_pool_base n) refl
base_within _ = refl

pub base_aligned : (o : Option Data) → base_in o % 65536 ≡ 0
base_aligned o = eqb-true _ _ (and_parts _ _ (base_within o)).0

pub base_low : (o : Option Data) → base_in o < 2 ^ 48
base_low o = ltb-true _ _ (and_parts _ _ (base_within o)).1

pub number_from : (low high default : ℕ) (o : Option Data) → is_within low high default ≡ true
    → low ≤ number_in low high default o
number_from low high default o h = leb-true _ _ (and_parts _ _ (number_within low high default o h)).0

-- the largest number
abbrev pub most_number : ℕ
most_number = 9223372036854775807

pub number_low : (o : Option Data) → number_in 0 most_number 0 o < 2 ^ 63
number_low o = lt_of_le_ones 63 (number_to 0 most_number 0 o refl)

-- the region of these addresses; of others, the region of one byte at 0
unfoldable pub region_if : (base end : ℕ) (b : Bool) → is_region base end ≡ b → Region
region_if base end true e = record { base = base; end = end; ordered = ltb-true _ _ (and_parts _ _ e).0; low = ltb-true _ _ (and_parts _ _ e).1 }
region_if base end false e = record { base = 0; end = 1; ordered = ltb-true _ _ refl; low = ltb-true _ _ refl }

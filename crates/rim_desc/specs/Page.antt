-- Pages and descriptors as DEN0137 lists its structures, RmiRealmParams and the measurement descriptors among them:
-- fields at offsets, over zero bytes.
use Rattle.std.specs.Prelude.{ℕ, ◌+◌, ◌&&◌, Bool, List, [], ◌∷◌, ◌++◌, length, take, drop, replicate, nat_le, nat_lt}
use Rattle.std.specs.Int.{to_le_bytes, w64}
use Rattle.std.specs.List.{list_all, list_any}

-- `page` with the bytes of `part` in the place of its own, from the offset `at` on
unfoldable pub with_part : List ℕ → ℕ → List ℕ → List ℕ
with_part page at part = take at page ++ (part ++ drop (length part) (drop at page))

-- n zero bytes
unfoldable pub zeros : ℕ → List ℕ
zeros n = replicate n 0

-- some bytes, and the offset at which they are
pub record Field : Type 0 where
  pub at : ℕ
  pub part : List ℕ

-- `page` with each field put in its place
abbrev pub with_fields : List ℕ → List Field → List ℕ
with_fields page [] = page
with_fields page (f ∷ fs) = with_fields (with_part page f.at f.part) fs

-- some bytes as they are
abbrev pub bytes : ℕ → List ℕ → Field
bytes at part = record { at = at; part = part }

-- a number of one byte
abbrev pub byte : ℕ → ℕ → Field
byte at x = bytes at (x ∷ [])

-- a number of eight bytes, little endian as all numbers of the standard's structures are
abbrev pub word : ℕ → ℕ → Field
word at x = bytes at (to_le_bytes w64 x)

-- whether the offset k is one of a field's
abbrev pub covers : ℕ → Field → Bool
covers k f = nat_le f.at k && nat_lt k (f.at + length f.part)

-- whether some field has the offset k
abbrev pub is_listed : ℕ → List Field → Bool
is_listed k fs = list_any (covers k) fs

-- whether each field ends within the first n bytes
abbrev pub all_fit : ℕ → List Field → Bool
all_fit n fs = list_all (λ f. nat_le (f.at + length f.part) n) fs

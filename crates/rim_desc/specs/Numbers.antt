-- The numbers of a realm's parameters: DEN0137, RmiRealmParams. That a manifest calls them by the standard's names, and a listing has
-- them in the order of their offsets, is this project's choice.
use Rattle.std.specs.Prelude.{ℕ, List, [], ◌∷◌, codes, map, slice_index}
use Rattle.rim_desc.specs.Page.{Field, byte}
use Rattle.rim_desc.specs.declared.numbers.RealmNumbers.{RealmNumbers}

-- a number of one byte that is measured, and is 0 where it is not given
pub record Number : Type 0 where
  pub name : List ℕ
  -- where it is in the page
  pub offset : ℕ
  -- the highest value that may be given
  pub most : ℕ
  pub value : RealmNumbers → ℕ

-- the numbers of the monitor of DEN0137 1.0
abbrev pub rmm_1_0 : List Number
rmm_1_0 =
    record { name = codes "sve_vl"; offset = 0x10; most = 255; value = λ n. n.sve_vl }
    ∷ record { name = codes "num_bps"; offset = 0x18; most = 255; value = λ n. n.num_bps }
    ∷ record { name = codes "num_wps"; offset = 0x20; most = 255; value = λ n. n.num_wps }
    ∷ record { name = codes "pmu_num_ctrs"; offset = 0x28; most = 255; value = λ n. n.pmu_num_ctrs } ∷ []

-- the numbers, in the order of their rows
abbrev pub in_order : RealmNumbers → List ℕ
in_order numbers = map (λ row. row.value numbers) rmm_1_0

-- each number in its place of the page
abbrev pub number_fields : RealmNumbers → List Field
number_fields numbers = map (λ row. byte row.offset (row.value numbers)) rmm_1_0

-- the numbers that are these, in the order of their rows
abbrev pub numbers_from : List ℕ → RealmNumbers
numbers_from ns = record {
  sve_vl = slice_index ns 0;
  num_bps = slice_index ns 1;
  num_wps = slice_index ns 2;
  pmu_num_ctrs = slice_index ns 3;
}

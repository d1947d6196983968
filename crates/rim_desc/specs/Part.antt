-- What a Realm Initial Measurement is made of, part by part. DEN0137, "Realm Initial Measurement".
use Rattle.std.specs.Prelude.{ℕ, List, [], ◌∷◌, Option}
use Rattle.rim_desc.specs.Page.{zeros}
use Rattle.rim_desc.specs.Measurement.{measurement_of}
use Rattle.rim_desc.specs.Descriptor.{data_descriptor_of, rec_descriptor_of, ripas_descriptor_of}
use Rattle.rim_desc.specs.declared.measurement.Algo.{Algo}

-- one thing that the monitor measures
pub data Part : Type 0 where
  -- a realm, by its measured page: every list of parts begins with it
  Realm : List ℕ → Part
  -- a stretch that becomes RAM, from its first address to the first past it
  Ripas : ℕ → ℕ → Part
  -- a page of data at an IPA, with the measurement of its bytes unless it is not measured
  Data : ℕ → Option (List ℕ) → Part
  -- a REC, by the measurement of its page
  Rec : List ℕ → Part

-- the measurement after one more part: a realm's page sets it, any other part's descriptor holds the
-- present measurement and extends it
abbrev pub extended : Algo → List ℕ → Part → List ℕ
extended algo rim (Realm page) = measurement_of algo page
extended algo rim (Ripas base top) = measurement_of algo (ripas_descriptor_of rim base top)
extended algo rim (Data ipa content) = measurement_of algo (data_descriptor_of rim ipa content)
extended algo rim (Rec content) = measurement_of algo (rec_descriptor_of rim content)

-- the measurement `rim` extended by some parts, one after the other
abbrev pub extended_by : Algo → List ℕ → List Part → List ℕ
extended_by algo rim [] = rim
extended_by algo rim (part ∷ parts) = extended_by algo (extended algo rim part) parts

-- the Realm Initial Measurement that a list of parts makes
abbrev pub rim_of : Algo → List Part → List ℕ
rim_of algo parts = extended_by algo (zeros 64) parts

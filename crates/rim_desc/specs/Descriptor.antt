-- Measurement descriptors. DEN0137, RmmMeasurementDescriptorData,
-- RmmMeasurementDescriptorRec and RmmMeasurementDescriptorRipas.
use Rattle.std.specs.Prelude.{ℕ, List, [], ◌∷◌, ◌++◌, Option, Some, None}
use Rattle.rim_desc.specs.Page.{Field, byte, bytes, word, with_fields, zeros}
use Rattle.rim_desc.specs.declared.descriptor.TheConstants.{DESCRIPTOR_SIZE}

-- what each descriptor begins with: its type, its length and the present measurement
abbrev pub heading : ℕ → List ℕ → List Field
heading type_number rim = byte 0x0 type_number ∷ word 0x8 0x100 ∷ bytes 0x10 rim ∷ []

-- a page of data at an IPA: flag 1 and the measurement of its bytes, or flag 0 and zero bytes where
-- the content is not measured
abbrev pub data_fields : List ℕ → ℕ → Option (List ℕ) → List Field
data_fields rim ipa (Some content) = heading 0 rim ++ (word 0x50 ipa ∷ word 0x58 1 ∷ bytes 0x60 content ∷ [])
data_fields rim ipa None = heading 0 rim ++ (word 0x50 ipa ∷ word 0x58 0 ∷ bytes 0x60 (zeros 64) ∷ [])

-- a REC, by the measurement of its page
abbrev pub rec_descriptor_fields : List ℕ → List ℕ → List Field
rec_descriptor_fields rim content = heading 1 rim ++ (bytes 0x50 content ∷ [])

-- a stretch of IPA space that becomes RAM: its first address, and the first address past it
abbrev pub ripas_fields : List ℕ → ℕ → ℕ → List Field
ripas_fields rim base top = heading 2 rim ++ (word 0x50 base ∷ word 0x58 top ∷ [])

unfoldable pub data_descriptor_of : List ℕ → ℕ → Option (List ℕ) → List ℕ
data_descriptor_of rim ipa content = with_fields (zeros DESCRIPTOR_SIZE) (data_fields rim ipa content)

unfoldable pub rec_descriptor_of : List ℕ → List ℕ → List ℕ
rec_descriptor_of rim content = with_fields (zeros DESCRIPTOR_SIZE) (rec_descriptor_fields rim content)

unfoldable pub ripas_descriptor_of : List ℕ → ℕ → ℕ → List ℕ
ripas_descriptor_of rim base top = with_fields (zeros DESCRIPTOR_SIZE) (ripas_fields rim base top)

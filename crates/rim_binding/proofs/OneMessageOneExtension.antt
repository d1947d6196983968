-- A message that extends a measurement determines that measurement and the part. So do the pages of parameters.
use Rattle.std.proofs.Common.{◌≡◌, ℕ, ◌^◌, ◌<◌, ◌∙◌, true, List, [], ◌∷◌, length, map, get_or, refl, sym, ap, arith}
use Rattle.std.proofs.lemmas.Nat.{from_le_bytes-to_le_bytes_8}
use Rattle.std.specs.Int.{from_le_bytes, to_le_bytes, w64}
use Rattle.std.specs.Prelude.{Option, Some, None}
use Rattle.rim_desc.specs.Descriptor.{data_descriptor_of, data_fields, rec_descriptor_fields, rec_descriptor_of, ripas_descriptor_of, ripas_fields}
use Rattle.rim_desc.specs.Page.{Field, zeros}
use Rattle.rim_desc.specs.Part.{Data, Part, Realm, Rec, Ripas}
use Rattle.rim_desc.specs.declared.descriptor.TheConstants.{DESCRIPTOR_SIZE}
use Rattle.rim_desc.proofs.BytesBesideFields.{length-zeros}
use Rattle.rmi_line.specs.Typed.{IsWord}
use Rattle.rim_binding.specs.Chain.{Fits, FitsContent, message}
use Rattle.rim_binding.proofs.FieldsOfPages.{HasSlots, are_in_order, first_read, read, same_parts}

pub same_word : (x y : ℕ) → x < 2 ^ 64 → y < 2 ^ 64 → to_le_bytes w64 x ≡ to_le_bytes w64 y → x ≡ y
same_word x y x_fits y_fits same =
    sym (from_le_bytes-to_le_bytes_8 x x_fits) ∙ ap (from_le_bytes w64) same ∙ from_le_bytes-to_le_bytes_8 y y_fits

-- ---- slots of descriptors

type_slot : ℕ × ℕ
type_slot = (0x0, 1)

heading_slots : List (ℕ × ℕ) → List (ℕ × ℕ)
heading_slots others = (0x8, 8) ∷ (0x10, 64) ∷ others

two_words : List (ℕ × ℕ) → List (ℕ × ℕ)
two_words others = (0x50, 8) ∷ (0x58, 8) ∷ others

data_slots : List (ℕ × ℕ)
data_slots = heading_slots (two_words ((0x60, 64) ∷ []))

rec_slots : List (ℕ × ℕ)
rec_slots = heading_slots ((0x50, 64) ∷ [])

ripas_slots : List (ℕ × ℕ)
ripas_slots = heading_slots (two_words [])

data-slots : (rim : List ℕ) (ipa : ℕ) (content : Option (List ℕ)) → length rim ≡ 64 → FitsContent content
    → HasSlots (type_slot ∷ data_slots) (data_fields rim ipa content)
unfolding type_slot data_slots heading_slots two_words zeros
data-slots rim ipa None rim_fits fits =
    (refl, refl, (refl, refl, (refl, rim_fits, (refl, refl, (refl, refl, (refl, length-zeros 64, tt))))))
data-slots rim ipa (Some content) rim_fits fits =
    (refl, refl, (refl, refl, (refl, rim_fits, (refl, refl, (refl, refl, (refl, fits.0, tt))))))

rec-slots : (rim content : List ℕ) → length rim ≡ 64 → length content ≡ 64 → HasSlots (type_slot ∷ rec_slots) (rec_descriptor_fields rim content)
unfolding type_slot rec_slots heading_slots
rec-slots rim content rim_fits fits = (refl, refl, (refl, refl, (refl, rim_fits, (refl, fits, tt))))

ripas-slots : (rim : List ℕ) (base top : ℕ) → length rim ≡ 64 → HasSlots (type_slot ∷ ripas_slots) (ripas_fields rim base top)
unfolding type_slot ripas_slots heading_slots two_words
ripas-slots rim base top rim_fits = (refl, refl, (refl, refl, (refl, rim_fits, (refl, refl, (refl, refl, tt)))))

data-order : are_in_order 256 0 (type_slot ∷ data_slots) ≡ true
unfolding type_slot data_slots heading_slots two_words
data-order = refl

rec-order : are_in_order 256 0 (type_slot ∷ rec_slots) ≡ true
unfolding type_slot rec_slots heading_slots
rec-order = refl

ripas-order : are_in_order 256 0 (type_slot ∷ ripas_slots) ≡ true
unfolding type_slot ripas_slots heading_slots two_words
ripas-order = refl

abbrev pub parts_of : List Field → List (List ℕ)
parts_of fs = map (λ (f : Field). f.part) fs

abbrev blank : List ℕ
blank = zeros DESCRIPTOR_SIZE

-- ---- each kind of descriptor

record SameData (r s : List ℕ) (ipa jpa : ℕ) (c d : Option (List ℕ)) : Type 0 where
  rims : r ≡ s
  ipas : ipa ≡ jpa
  contents : c ≡ d

data-parts : (r s : List ℕ) (ipa jpa : ℕ) (c d : Option (List ℕ)) → length r ≡ 64 → length s ≡ 64 → FitsContent c → FitsContent d
    → data_descriptor_of r ipa c ≡ data_descriptor_of s jpa d → parts_of (data_fields r ipa c) ≡ parts_of (data_fields s jpa d)
unfolding data_descriptor_of
data-parts r s ipa jpa c d r_fits s_fits c_fits d_fits same =
    same_parts (type_slot ∷ data_slots) (data_fields r ipa c) (data_fields s jpa d) blank blank 256 0 data-order (length-zeros 256) (length-zeros 256)
    (data-slots r ipa c r_fits c_fits) (data-slots s jpa d s_fits d_fits) same

-- field k of a descriptor or a page
unfoldable pub at : ℕ → List (List ℕ) → List ℕ
at k parts = get_or parts k []

same_data : (r s : List ℕ) (ipa jpa : ℕ) (c d : Option (List ℕ)) → IsWord ipa → IsWord jpa
    → parts_of (data_fields r ipa c) ≡ parts_of (data_fields s jpa d) → SameData r s ipa jpa c d
unfolding at
same_data r s ipa jpa (Some c) (Some d) ipa_fits jpa_fits same = record {
  rims = ap (at 2) same;
  ipas = same_word ipa jpa ipa_fits jpa_fits (ap (at 3) same);
  contents = ap (λ (m : List ℕ). Some m) (ap (at 5) same);
}
same_data r s ipa jpa (Some c) None ipa_fits jpa_fits same =
    let flags = same_word 1 0 (omega arith) (omega arith) (ap (at 4) same) in absurd (omega arith)
same_data r s ipa jpa None (Some d) ipa_fits jpa_fits same =
    let flags = same_word 0 1 (omega arith) (omega arith) (ap (at 4) same) in absurd (omega arith)
same_data r s ipa jpa None None ipa_fits jpa_fits same = record {
  rims = ap (at 2) same;
  ipas = same_word ipa jpa ipa_fits jpa_fits (ap (at 3) same);
  contents = refl;
}

rec-parts : (r s c d : List ℕ) → length r ≡ 64 → length s ≡ 64 → length c ≡ 64 → length d ≡ 64
    → rec_descriptor_of r c ≡ rec_descriptor_of s d → parts_of (rec_descriptor_fields r c) ≡ parts_of (rec_descriptor_fields s d)
unfolding rec_descriptor_of
rec-parts r s c d r_fits s_fits c_fits d_fits same =
    same_parts (type_slot ∷ rec_slots) (rec_descriptor_fields r c) (rec_descriptor_fields s d) blank blank 256 0 rec-order (length-zeros 256) (length-zeros 256)
    (rec-slots r c r_fits c_fits) (rec-slots s d s_fits d_fits) same

ripas-parts : (r s : List ℕ) (b c t u : ℕ) → length r ≡ 64 → length s ≡ 64
    → ripas_descriptor_of r b t ≡ ripas_descriptor_of s c u → parts_of (ripas_fields r b t) ≡ parts_of (ripas_fields s c u)
unfolding ripas_descriptor_of
ripas-parts r s b c t u r_fits s_fits same =
    same_parts (type_slot ∷ ripas_slots) (ripas_fields r b t) (ripas_fields s c u) blank blank 256 0 ripas-order (length-zeros 256) (length-zeros 256)
    (ripas-slots r b t r_fits) (ripas-slots s c u s_fits) same

-- ---- any two parts

-- the type of a part's descriptor
type_of : Part → ℕ
type_of (Realm page) = 3
type_of (Ripas base top) = 2
type_of (Data ipa content) = 0
type_of (Rec content) = 1

type-read : (rim : List ℕ) (part : Part) → length rim ≡ 64 → Fits part → read 0 1 (message rim part) ≡ type_of part ∷ []
unfolding type_of type_slot data_descriptor_of rec_descriptor_of ripas_descriptor_of
type-read rim (Realm page) rim_fits fits = absurd fits
type-read rim (Ripas base top) rim_fits fits =
    first_read type_slot ripas_slots _ _ blank 256 0 (length-zeros 256) ripas-order (ripas-slots rim base top rim_fits)
type-read rim (Data ipa None) rim_fits fits =
    first_read type_slot data_slots _ _ blank 256 0 (length-zeros 256) data-order (data-slots rim ipa None rim_fits fits.1)
type-read rim (Data ipa (Some content)) rim_fits fits =
    first_read type_slot data_slots _ _ blank 256 0 (length-zeros 256) data-order (data-slots rim ipa (Some content) rim_fits fits.1)
type-read rim (Rec content) rim_fits fits =
    first_read type_slot rec_slots _ _ blank 256 0 (length-zeros 256) rec-order (rec-slots rim content rim_fits fits.0)

-- the measurement that was extended, and the part that it was extended by
pub record SameExtension (r s : List ℕ) (x y : Part) : Type 0 where
  pub rims : r ≡ s
  pub parts : x ≡ y

pub same_extension : (r s : List ℕ) (x y : Part) → length r ≡ 64 → length s ≡ 64 → Fits x → Fits y → message r x ≡ message s y → SameExtension r s x y
unfolding type_of at
same_extension r s x y r_fits s_fits x_fits y_fits same = by_parts x y x_fits y_fits same
    (sym (type-read r x r_fits x_fits) ∙ ap (read 0 1) same ∙ type-read s y s_fits y_fits)
  where
    by_parts : (x y : Part) → Fits x → Fits y → message r x ≡ message s y → type_of x ∷ [] ≡ type_of y ∷ [] → SameExtension r s x y
    by_parts (Realm page) y x_fits y_fits same types = absurd x_fits
    by_parts x (Realm page) x_fits y_fits same types = absurd y_fits
    by_parts (Ripas base top) (Ripas low high) x_fits y_fits same types =
        let parts : parts_of (ripas_fields r base top) ≡ parts_of (ripas_fields s low high) = ripas-parts r s base low top high r_fits s_fits same in
        let first : base ≡ low = same_word base low x_fits.0 y_fits.0 (ap (at 3) parts) in
        let last : top ≡ high = same_word top high x_fits.1 y_fits.1 (ap (at 4) parts) in
        record { rims = ap (at 2) parts; parts = (λ i. Ripas (first i) (last i)) }
    by_parts (Data ipa c) (Data jpa d) x_fits y_fits same types =
        let all : SameData r s ipa jpa c d =
        same_data r s ipa jpa c d x_fits.0 y_fits.0 (data-parts r s ipa jpa c d r_fits s_fits x_fits.1 y_fits.1 same) in
        record { rims = all.rims; parts = (λ i. Data (all.ipas i) (all.contents i)) }
    by_parts (Rec c) (Rec d) x_fits y_fits same types =
        let parts : parts_of (rec_descriptor_fields r c) ≡ parts_of (rec_descriptor_fields s d) =
        rec-parts r s c d r_fits s_fits x_fits.0 y_fits.0 same in
        record { rims = ap (at 2) parts; parts = ap (λ (m : List ℕ). Rec m) (ap (at 3) parts) }
    by_parts (Ripas base top) (Data jpa d) x_fits y_fits same types = absurd (cc)
    by_parts (Ripas base top) (Rec d) x_fits y_fits same types = absurd (cc)
    by_parts (Data ipa c) (Ripas low high) x_fits y_fits same types = absurd (cc)
    by_parts (Data ipa c) (Rec d) x_fits y_fits same types = absurd (cc)
    by_parts (Rec c) (Ripas low high) x_fits y_fits same types = absurd (cc)
    by_parts (Rec c) (Data jpa d) x_fits y_fits same types = absurd (cc)

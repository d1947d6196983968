-- What a monitor hashes is bytes, of a known length; a measurement has 64 bytes.
use Rattle.std.proofs.Common.{◌≡◌, ℕ, zero, suc, ◌+◌, ◌≤◌, ◌∙◌, List, [], ◌∷◌, ◌++◌, length, take, drop, sym, refl, ap, arith, length-append}
use Rattle.std.proofs.lemmas.List.Elements.{All-append, All-cons, All-drop, All-nil, All-replicate, All-take}
use Rattle.std.proofs.Math.Seq.{take-append_seam}
use Rattle.std.specs.Int.{bytes_high_first, bytes_low_first, to_be_bytes, to_le_bytes, w32, w64}
use Rattle.std.specs.List.{All, AllByRecursion}
use Rattle.std.specs.Prelude.{Some, None, slice_index}
use Rattle.sha2.specs.Sha256 as short
use Rattle.sha2.specs.Sha512 as long
use Rattle.sha2.proofs.Facts256.{length-sha256}
use Rattle.sha2.proofs.Facts512.{length-sha512}
use Rattle.rim_desc.specs.Descriptor.{data_descriptor_of, data_fields, rec_descriptor_fields, rec_descriptor_of, ripas_descriptor_of, ripas_fields}
use Rattle.rim_desc.specs.Measurement.{measurement_of}
use Rattle.rim_desc.specs.Page.{Field, with_fields, with_part, zeros}
use Rattle.rim_desc.specs.Part.{Data, Part, Realm, Rec, Ripas, extended}
use Rattle.rim_desc.specs.declared.measurement.Algo.{Algo}
use Rattle.rim_desc.specs.declared.measurement.Algo.TheVariants.{Sha256, Sha512}
use Rattle.rim_desc.proofs.BytesBesideFields.{length-with_part, length-zeros}
use Rattle.rmi_line.specs.Typed.{Are64Bytes, IsByte}
use Rattle.rim_binding.specs.Chain.{Fits, message}
use Rattle.rim_binding.specs.Collision.{digest_of}

-- ---- numbers as bytes

high_first : (k n : ℕ) → All IsByte (bytes_high_first k n)
high_first zero n = All-nil IsByte
high_first (suc k) n = All-cons IsByte _ _ (search (arith)) (high_first k n)

low_first : (i k n : ℕ) → All IsByte (bytes_low_first i k n)
low_first i zero n = All-nil IsByte
low_first zero (suc k) n = All-cons IsByte _ _ (search (arith)) (low_first 1 k n)
low_first (suc i) (suc k) n = All-cons IsByte _ _ (search (arith)) (low_first (suc (suc i)) k n)

pub word-bytes : (n : ℕ) → All IsByte (to_le_bytes w64 n)
word-bytes n = low_first 0 8 n

pub one-byte : (n : ℕ) → IsByte n → All IsByte (n ∷ [])
one-byte n fits = All-cons IsByte n [] fits (All-nil IsByte)

pub zeros-bytes : (n : ℕ) → All IsByte (zeros n)
unfolding zeros
zeros-bytes n = All-replicate IsByte n 0 (omega arith)

-- ---- measurements

short-bytes : (h : List ℕ) (n : ℕ) → All IsByte (short.digest_bytes h n)
unfolding short.digest_bytes
short-bytes h zero = All-nil IsByte
short-bytes h (suc n) = All-append IsByte (short.digest_bytes h n) (to_be_bytes w32 (slice_index h n)) (short-bytes h n) (high_first 4 (slice_index h n))

long-bytes : (h : List ℕ) (n : ℕ) → All IsByte (long.digest_bytes h n)
unfolding long.digest_bytes
long-bytes h zero = All-nil IsByte
long-bytes h (suc n) = All-append IsByte (long.digest_bytes h n) (to_be_bytes w64 (slice_index h n)) (long-bytes h n) (high_first 8 (slice_index h n))

pub measurement-fits : (algo : Algo) (m : List ℕ) → Are64Bytes (measurement_of algo m)
unfolding short.sha256 long.sha512
measurement-fits Sha256 m =
    let long : length (short.sha256 m ++ zeros 32) ≡ 64 = omega (arith, length-append (short.sha256 m) (zeros 32), length-sha256 m, length-zeros 32) in
    (long, All-append IsByte (short.sha256 m) (zeros 32) (short-bytes (short.final_hash short.initial_hash_256 m) 8) (zeros-bytes 32))
measurement-fits Sha512 m = (length-sha512 m, long-bytes (long.final_hash long.initial_hash_512 m) 8)

-- measurements that are the same have the same digest
pub same-digest : (algo : Algo) (m n : List ℕ) → measurement_of algo m ≡ measurement_of algo n → digest_of algo m ≡ digest_of algo n
same-digest Sha512 m n same = same
same-digest Sha256 m n same =
    let front : (x : List ℕ) → take 32 (short.sha256 x ++ zeros 32) ≡ short.sha256 x =
    λ x. ap (λ k. take k (short.sha256 x ++ zeros 32)) (sym (length-sha256 x)) ∙ take-append_seam (short.sha256 x) (zeros 32) in
    sym (front m) ∙ ap (take 32) same ∙ front n

-- ---- pages of fields

bytes-with_part : (page part : List ℕ) (at : ℕ) → All IsByte page → All IsByte part → All IsByte (with_part page at part)
unfolding with_part
bytes-with_part page part at page_fits part_fits =
    All-append IsByte (take at page) (part ++ drop (length part) (drop at page)) (All-take IsByte at page page_fits)
    (All-append IsByte part (drop (length part) (drop at page)) part_fits (All-drop IsByte (length part) (drop at page) (All-drop IsByte at page page_fits)))

pub bytes-with_fields : (fs : List Field) (page : List ℕ) → All IsByte page → AllByRecursion (λ (f : Field). All IsByte f.part) fs
    → All IsByte (with_fields page fs)
bytes-with_fields [] page page_fits fits = page_fits
bytes-with_fields (f ∷ fs) page page_fits fits =
    bytes-with_fields fs (with_part page f.at f.part) (bytes-with_part page f.part f.at page_fits fits.0) fits.1

-- each field ends within the page
abbrev pub EndWithin : ℕ → List Field → Type 0
EndWithin n fs = AllByRecursion (λ (f : Field). f.at + length f.part ≤ n) fs

pub length-with_fields : (fs : List Field) (page : List ℕ) (n : ℕ) → length page ≡ n → EndWithin n fs → length (with_fields page fs) ≡ n
length-with_fields [] page n long fit = long
length-with_fields (f ∷ fs) page n long fit =
    let ends : f.at + length f.part ≤ n = fit.0 in
    let fits : f.at + length f.part ≤ length page = omega arith in
    length-with_fields fs (with_part page f.at f.part) n (length-with_part page f.part f.at fits ∙ long) fit.1

-- ---- descriptors

-- a message that extends a measurement has 256 bytes
pub record IsDescriptor (m : List ℕ) : Type 0 where
  pub long : length m ≡ 256
  pub bytes : All IsByte m

pub descriptor : (rim : List ℕ) (part : Part) → Are64Bytes rim → Fits part → IsDescriptor (message rim part)
unfolding data_descriptor_of rec_descriptor_of ripas_descriptor_of
descriptor rim (Realm page) rim_fits fits = absurd fits
descriptor rim (Ripas base top) rim_fits fits =
    let size : length rim ≡ 64 = rim_fits.0 in
    record {
      long = length-with_fields (ripas_fields rim base top) (zeros 256) 256 (length-zeros 256)
          (omega arith, (omega arith, (omega arith, (omega arith, (omega arith, tt)))));
      bytes = bytes-with_fields (ripas_fields rim base top) (zeros 256) (zeros-bytes 256)
          (one-byte 2 (omega arith), (word-bytes 256, (rim_fits.1, (word-bytes base, (word-bytes top, tt)))));
    }
descriptor rim (Data ipa None) rim_fits fits =
    let size : length rim ≡ 64 = rim_fits.0 in
    let zero_size : length (zeros 64) ≡ 64 = length-zeros 64 in
    record {
      long = length-with_fields (data_fields rim ipa None) (zeros 256) 256 (length-zeros 256)
          (omega arith, (omega arith, (omega arith, (omega arith, (omega arith, (omega arith, tt))))));
      bytes = bytes-with_fields (data_fields rim ipa None) (zeros 256) (zeros-bytes 256)
          (one-byte 0 (omega arith), (word-bytes 256, (rim_fits.1, (word-bytes ipa, (word-bytes 0, (zeros-bytes 64, tt))))));
    }
descriptor rim (Data ipa (Some content)) rim_fits fits =
    let size : length rim ≡ 64 = rim_fits.0 in
    let content_size : length content ≡ 64 = fits.1.0 in
    record {
      long = length-with_fields (data_fields rim ipa (Some content)) (zeros 256) 256 (length-zeros 256)
          (omega arith, (omega arith, (omega arith, (omega arith, (omega arith, (omega arith, tt))))));
      bytes = bytes-with_fields (data_fields rim ipa (Some content)) (zeros 256) (zeros-bytes 256)
          (one-byte 0 (omega arith), (word-bytes 256, (rim_fits.1, (word-bytes ipa, (word-bytes 1, (fits.1.1, tt))))));
    }
descriptor rim (Rec content) rim_fits fits =
    let size : length rim ≡ 64 = rim_fits.0 in
    let content_size : length content ≡ 64 = fits.0 in
    record {
      long = length-with_fields (rec_descriptor_fields rim content) (zeros 256) 256 (length-zeros 256)
          (omega arith, (omega arith, (omega arith, (omega arith, tt))));
      bytes = bytes-with_fields (rec_descriptor_fields rim content) (zeros 256) (zeros-bytes 256)
          (one-byte 1 (omega arith), (word-bytes 256, (rim_fits.1, (fits.1, tt))));
    }

-- a measurement is extended by the measurement of a message
pub extended-message : (algo : Algo) (rim : List ℕ) (part : Part) → extended algo rim part ≡ measurement_of algo (message rim part)
extended-message algo rim (Realm page) = refl
extended-message algo rim (Ripas base top) = refl
extended-message algo rim (Data ipa content) = refl
extended-message algo rim (Rec content) = refl

pub extended-fits : (algo : Algo) (rim : List ℕ) (part : Part) → Are64Bytes (extended algo rim part)
extended-fits algo rim (Realm page) = measurement-fits algo page
extended-fits algo rim (Ripas base top) = measurement-fits algo (message rim (Ripas base top))
extended-fits algo rim (Data ipa content) = measurement-fits algo (message rim (Data ipa content))
extended-fits algo rim (Rec content) = measurement-fits algo (message rim (Rec content))

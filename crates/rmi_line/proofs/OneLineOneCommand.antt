-- A command comes back from its words, so no two commands have the same line, and what is read of a command's line is it.
use Rattle.std.proofs.Common.{◌≡◌, ℕ, zero, suc, ◌+◌, ◌^◌, ◌<◌, cond, List, [], ◌∷◌, ◌++◌, length, map, take, drop, get_or, refl, sym, ap, ◌∙◌, arith, codes, Option, Some, None}
use Rattle.std.proofs.Math.Seq.{drop-append_seam, take-append_seam}
use Rattle.std.proofs.lemmas.Fmt.{decimal_is_IsNumeral}
use Rattle.std.proofs.lemmas.List.{length-map}
use Rattle.std.proofs.lemmas.List.Elements.{All-cons, All-nil, All-tail}
use Rattle.std.proofs.lemmas.Nat.{from_be_bytes-to_be_bytes_8}
use Rattle.std.specs.Fmt.{decimal}
use Rattle.std.specs.Int.{bytes_high_first, from_be_bytes, to_be_bytes, w64}
use Rattle.std.specs.List.{All, slice_split}
use Rattle.std.specs.Prelude.{◌==◌}
use Rattle.std.specs.Result.{result_unwrap_or}
use Rattle.std.specs.Str.{bytes_eq}
use Rattle.std.specs.Str.Parse.{digits_value}
use Rattle.hex.specs.Hex.{IsBytes, decode_of, encode_lower}
use Rattle.hex.proofs.HexLemmas.{decode_of-encode_lower}
use Rattle.rim_desc.specs.Number.{digits_of}
use Rattle.rim_desc.specs.Numbers.{in_order, numbers_from}
use Rattle.rim_desc.specs.declared.numbers.RealmNumbers.{RealmNumbers}
use Rattle.rim_desc.specs.declared.numbers.TheConstants.{NUMBER_COUNT}
use Rattle.rim_desc.specs.Rec.{RecData}
use Rattle.rim_desc.specs.declared.command.Command.{Command}
use Rattle.rim_desc.specs.declared.command.Command.TheVariants.{Delegate, RealmCreate, RttCreate, InitRipas, DataCreate, DataCreateUnknown, RecCreate, Activate}
use Rattle.rim_desc.specs.declared.measurement.Algo.{Algo}
use Rattle.rim_desc.specs.declared.measurement.Algo.TheVariants.{Sha256, Sha512}
use Rattle.rim_desc.specs.declared.measurement.Measurement.{Measurement}
use Rattle.rim_desc.specs.declared.realm.RealmParams.{RealmParams}
use Rattle.rmi_line.specs.Line.{content_words, line_of, realm_words, rec_words, words_of}
use Rattle.rmi_line.specs.Spelled.{Reads}
use Rattle.rmi_line.specs.Typed.{IsByte, IsContent, IsRealm, IsRec, IsTyped, IsWord}
use Rattle.rmi_line.proofs.SpacesPartWords.{line_of-split}
use Rattle.rim_desc.specs.Measurement.{algo_word}

-- ---- what words say

bytes_said : List ℕ → List ℕ
bytes_said word = result_unwrap_or (decode_of word) []

address_said : List ℕ → ℕ
address_said word = from_be_bytes w64 (bytes_said word)

number_said : List ℕ → ℕ
number_said word = digits_value 10 word

algo_said : List ℕ → Algo
algo_said word = cond (bytes_eq word (codes "sha256")) Sha256 Sha512

abbrev at : List (List ℕ) → ℕ → List ℕ
at words k = get_or words k []

content_said : List (List ℕ) → Option Measurement
content_said words = cond (bytes_eq (at words 0) (codes "measured")) (Some (record { bytes = bytes_said (at words 1) })) None

numbers_said : List (List ℕ) → RealmNumbers
numbers_said words = numbers_from (map number_said (take NUMBER_COUNT words))

realm_said : List (List ℕ) → RealmParams
realm_said words = record {
  rtt_base = address_said (at words 0);
  rtt_level_start = number_said (at words 1);
  rtt_num_start = number_said (at words 2);
  s2sz = number_said (at words 3);
  algo = algo_said (at words 4);
  flags = address_said (at words 5);
  numbers = numbers_said (drop 6 words);
  rpv = bytes_said (at words (6 + NUMBER_COUNT));
}

rec_said : List (List ℕ) → RecData
rec_said words = record {
  flags = address_said (at words 0);
  mpidr = address_said (at words 1);
  pc = address_said (at words 2);
  gprs = map address_said (take 8 (drop 3 words));
  aux = map address_said (drop 1 (drop 8 (drop 3 words)));
}

command_said : List (List ℕ) → Command
command_said words =
    let name = at words 0 in
    cond (bytes_eq name (codes "delegate")) (Delegate (address_said (at words 1)))
    (cond (bytes_eq name (codes "realm_create")) (RealmCreate (address_said (at words 1)) (realm_said (drop 2 words)))
    (cond (bytes_eq name (codes "rtt_create")) (RttCreate (address_said (at words 1)) (address_said (at words 2)) (number_said (at words 3)))
    (cond (bytes_eq name (codes "init_ripas")) (InitRipas (address_said (at words 1)) (address_said (at words 2)))
    (cond (bytes_eq name (codes "data_create")) (DataCreate (address_said (at words 1)) (address_said (at words 2)) (content_said (drop 3 words)))
    (cond (bytes_eq name (codes "data_unknown")) (DataCreateUnknown (address_said (at words 1)) (address_said (at words 2)))
    (cond (bytes_eq name (codes "rec_create")) (RecCreate (address_said (at words 1)) (rec_said (drop 2 words)))
    Activate))))))

-- ---- each word says what it was made of

-- what fits is a byte at each place
pub to_is_bytes : (bytes : List ℕ) → All IsByte bytes → IsBytes bytes
to_is_bytes [] fit i = omega arith
to_is_bytes (b ∷ bytes) fit zero = fit 0 0 (omega arith)
to_is_bytes (b ∷ bytes) fit (suc i) = to_is_bytes bytes (All-tail IsByte b bytes fit) i

-- each byte of a number is one
high_first : (k n : ℕ) → All IsByte (bytes_high_first k n)
high_first zero n = All-nil IsByte
high_first (suc k) n = All-cons IsByte _ _ (search (arith)) (high_first k n)

pub to_be_bytes-fit : (n : ℕ) → All IsByte (to_be_bytes w64 n)
to_be_bytes-fit n = high_first 8 n

bytes_again : (bytes : List ℕ) → All IsByte bytes → bytes_said (encode_lower bytes) ≡ bytes
unfolding bytes_said
bytes_again bytes fit = ap (λ r. result_unwrap_or r []) (decode_of-encode_lower bytes (to_is_bytes bytes fit))

address_again : (n : ℕ) → n < 2 ^ 64 → address_said (digits_of n) ≡ n
unfolding address_said bytes_said
address_again n fits =
    ap (λ r. from_be_bytes w64 (result_unwrap_or r [])) (decode_of-encode_lower (to_be_bytes w64 n) (to_is_bytes (to_be_bytes w64 n) (to_be_bytes-fit n)))
    ∙ from_be_bytes-to_be_bytes_8 n fits

number_again : (n : ℕ) → n < 2 ^ 8 → number_said (decimal n) ≡ n
unfolding number_said
number_again n fits = (decimal_is_IsNumeral n (omega arith)).1

each_again : (numbers : List ℕ) → All IsByte numbers → map number_said (map decimal numbers) ≡ numbers
each_again [] fit = refl
each_again (n ∷ numbers) fit =
    rw (number_again n (fit 0 0 (omega arith)), each_again numbers (All-tail IsByte n numbers fit)) refl

numbers_again : (n : RealmNumbers) → All IsByte (in_order n) → (others : List (List ℕ)) → numbers_said (map decimal (in_order n) ++ others) ≡ n
unfolding numbers_said
numbers_again n fit others = ap numbers_from (each_again (in_order n) fit)

algo_again : (algo : Algo) → algo_said (algo_word algo) ≡ algo
unfolding algo_said
algo_again Sha256 = refl
algo_again Sha512 = refl

addresses_again : (numbers : List ℕ) → All IsWord numbers → map address_said (map digits_of numbers) ≡ numbers
addresses_again [] fit = refl
addresses_again (n ∷ numbers) fit =
    rw (address_again n (fit 0 0 (omega arith)), addresses_again numbers (All-tail IsWord n numbers fit)) refl

content_again : (content : Option Measurement) → IsContent content → content_said (content_words content) ≡ content
unfolding content_said
content_again (Some m) fit = rw (bytes_again m.bytes fit.1) refl
content_again None fit = refl

realm_again : (p : RealmParams) → IsRealm p → realm_said (realm_words p) ≡ p
unfolding realm_said
realm_again p fit = rw (
  address_again p.rtt_base fit.rtt_base,
  address_again p.flags fit.flags,
  number_again p.rtt_level_start fit.rtt_level_start,
  number_again p.rtt_num_start fit.rtt_num_start,
  number_again p.s2sz fit.s2sz,
  numbers_again p.numbers fit.numbers (encode_lower p.rpv ∷ []),
  algo_again p.algo,
  bytes_again p.rpv fit.rpv.1,
) refl

rec_again : (r : RecData) → IsRec r → rec_said (rec_words r) ≡ r
unfolding rec_said
rec_again r fit =
    let xs = map digits_of r.gprs in
    let others = decimal (length r.aux) ∷ map digits_of r.aux in
    let count : length xs ≡ 8 = length-map r.gprs digits_of ∙ fit.gprs.0 in
    let front : take 8 (xs ++ others) ≡ xs = ap (λ k. take k (xs ++ others)) (sym count) ∙ take-append_seam xs others in
    let back : drop 8 (xs ++ others) ≡ others = ap (λ k. drop k (xs ++ others)) (sym count) ∙ drop-append_seam xs others in
    rw (
      address_again r.flags fit.flags,
      address_again r.mpidr fit.mpidr,
      address_again r.pc fit.pc,
      front,
      back,
      addresses_again r.gprs fit.gprs.1,
      addresses_again r.aux fit.aux.1,
    ) refl

command_again : (command : Command) → IsTyped command → command_said (words_of command) ≡ command
unfolding command_said
command_again (Delegate granule) fit = ap Delegate (address_again granule fit)
command_again (RealmCreate rd p) (rd_fits, fit) = rw (address_again rd rd_fits, realm_again p fit) refl
command_again (RttCreate rtt ipa level) (rtt_fits, ipa_fits, fit) =
    rw (address_again rtt rtt_fits, address_again ipa ipa_fits, number_again level fit) refl
command_again (InitRipas base top) (base_fits, top_fits) = rw (address_again base base_fits, address_again top top_fits) refl
command_again (DataCreate granule ipa content) (granule_fits, ipa_fits, fit) =
    rw (address_again granule granule_fits, address_again ipa ipa_fits, content_again content fit) refl
command_again (DataCreateUnknown granule ipa) (granule_fits, ipa_fits) = rw (address_again granule granule_fits, address_again ipa ipa_fits) refl
command_again (RecCreate rec r) (rec_fits, fit) = rw (address_again rec rec_fits, rec_again r fit) refl
command_again Activate fit = refl

pub same_line : (first second : Command) → IsTyped first → IsTyped second → line_of first ≡ line_of second → first ≡ second
same_line first second f s same =
    sym (command_again first f)
    ∙ ap command_said (sym (line_of-split first) ∙ ap (slice_split (λ b. b == 32)) same ∙ line_of-split second)
    ∙ command_again second s

pub read_again : (command : Command) → IsTyped command → (read : Option Command) → Reads (line_of command) read → read ≡ Some command
read_again command fit None none = absurd (none command (refl, fit))
read_again command fit (Some read) (same, typed) = ap Some (sym (same_line command read fit typed same))

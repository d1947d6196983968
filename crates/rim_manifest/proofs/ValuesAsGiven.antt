-- What is read at a key whose value has no fault is what its value gives.
use Rattle.std.proofs.Common.{◌≡◌, IsOk, ℕ, zero, suc, List, [], ◌∷◌, ◌++◌, length, take, drop, map, Bool, true, false, cond, ◌&&◌, ◌||◌, Option, Some}
use Rattle.std.proofs.Common.{None, Result, Ok, Err, pos, negsuc, refl, ap, sym, ◌∙◌, codes, true≢false}
use Rattle.std.specs.Prelude.{nat_le, ◌==◌, IsSome, is_some, unwrap_or}
use Rattle.std.specs.List.{list_all}
use Rattle.std.specs.Result.{result_unwrap_or}
use Rattle.std.specs.Str.{bytes_eq}
use Rattle.std.specs.Str.Parse.{digits_value}
use Rattle.std.proofs.lemmas.Bool.{eqb-true, and_parts}
use Rattle.std.proofs.lemmas.Slice.Eq.{bytes_eq-Decides}
use Rattle.std.proofs.lemmas.List.{take-append-drop}
use Rattle.std.proofs.lemmas.List.Sums.{AllPass-from_list_all}
use Rattle.hex.specs.Hex.{decode_sized, is_hex_digit}
use Rattle.hex.specs.declared.error.FromHexError.{FromHexError}
use Rattle.hex.proofs.HexLemmas.{IsOk-decode_sized}
use Rattle.toml.specs.Data.{Data, string, integer, boolean, array, Items, no_items, item, at, get_item}
use Rattle.rim_desc.specs.Page.{zeros}
use Rattle.rim_desc.specs.declared.measurement.Algo.TheVariants.{Sha256, Sha512}
use Rattle.rim_desc.specs.declared.rule.RecRule.TheVariants.{All, Runnable}
use Rattle.rim_rules.specs.declared.form.Form.{Form}
use Rattle.rim_rules.specs.declared.form.Form.TheVariants as form
use Rattle.rim_rules.specs.declared.form.Presence.{Presence}
use Rattle.rim_rules.specs.declared.form.Presence.TheVariants.{Required, Optional}
use Rattle.rim_rules.specs.Forms.{has_kind, is_pool_base, is_range, is_range_pair, is_text, items_in, items_list}
use Rattle.rim_manifest.specs.Given.{EachGives, FillsWord, GivesBootargs, GivesBytes, GivesNumber, GivesRegion, GivesRule, GivesSize, GivesTruth, GivesWord}
use Rattle.rim_manifest.specs.Given.{GivesWords, SpellsWord}
use Rattle.rim_manifest.specs.Launches.{region_in, region_of}
use Rattle.rim_rules.specs.Values.{algorithm_in, base_in, digits_in, number_in, text_in, truth_in, whole_in, word_at, word_in, words_in}
use Rattle.rim_rules.specs.Words.{are_digits, hex_number, is_word, word_of}
use Rattle.rim_manifest.specs.Checks.{cell_faults}
use Rattle.rim_launch.specs.Texts.{has_no_zero}
use Rattle.rim_launch.specs.declared.item.Role.{Role}
use Rattle.rim_launch.specs.declared.item.Role.TheVariants.{Kernel, Initrd, Dtb, Raw, Unknown}
use Rattle.rim_rules.specs.Items.{bootargs_in, size_in}
use Rattle.rim_rules.specs.Kinds.{kind_of_word, kind_word}
use Rattle.rim_rules.specs.Versions.{rule_in}
use Rattle.rim_rules.specs.declared.version.FormatVersion.TheVariants.{Two}
use Rattle.rim_manifest.proofs.TablesWithoutFaults.{IsGood, good_value}
use Rattle.rim_manifest.proofs.SameRegions.{reads_as}
use Rattle.rim_desc.specs.Measurement.{algo_word}

-- ---- the value at a key

-- no fault of the value at a key, whichever key it is
abbrev pub NoFault : Form → Presence → Option Data → Type 0
NoFault f p o = cell_faults (record { key = []; form = f; presence = p }) o ≡ []

-- what holds of no value and of each good value, holds of the value that may be given
pub given : (f : Form) (Holds : Option Data → Type 0) → Holds None → ((d : Data) → IsGood f d → Holds (Some d))
    → (o : Option Data) → NoFault f Optional o → Holds o
given f Holds absent present None e = absent
given f Holds absent present (Some d) e = present d (good_value f d e)

-- what holds of each good value, holds of the value that has to be given
pub there : (f : Form) (Holds : Option Data → Type 0) → ((d : Data) → IsGood f d → Holds (Some d))
    → (o : Option Data) → NoFault f Required o → Holds o
there f Holds present None e = cc
there f Holds present (Some d) e = present d (good_value f d e)

in_range : (b : Bool) (n default : ℕ) → b ≡ true → integer (pos n) ≡ integer (pos (cond b n default))
in_range true n default e = refl
in_range false n default e = cc

number_read : (low high default : ℕ) (d : Data) → IsGood (form.Number (pos low) (pos high)) d
    → GivesNumber default (Some d) (number_in low high default (Some d))
number_read low high default (integer (pos n)) good = in_range (nat_le low n && nat_le n high) n default good.within
number_read low high default (integer (negsuc n)) good = absurd (true≢false (sym good.within))
number_read low high default _ good = absurd (true≢false (sym good.kind))

pub number_given : (low high default : ℕ) (o : Option Data) → NoFault (form.Number (pos low) (pos high)) Optional o
    → GivesNumber default o (number_in low high default o)
number_given low high default =
    given (form.Number (pos low) (pos high)) (λ o. GivesNumber default o (number_in low high default o)) refl (number_read low high default)

pub number_there : (low high default : ℕ) (o : Option Data) → NoFault (form.Number (pos low) (pos high)) Required o
    → o ≡ Some (integer (pos (number_in low high default o)))
number_there low high default =
    there (form.Number (pos low) (pos high)) (λ o. o ≡ Some (integer (pos (number_in low high default o))))
    (λ d good. ap Some (number_read low high default d good))

pub base_read : (d : Data) → IsGood form.PoolBase d → GivesNumber 0x800000000 (Some d) (base_in (Some d))
base_read (integer (pos n)) good = in_range (is_pool_base n) n 0x800000000 good.within
base_read (integer (negsuc n)) good = absurd (true≢false (sym good.within))
base_read _ good = absurd (true≢false (sym good.kind))

truth_read : (default : Bool) (d : Data) → IsGood form.Truth d → GivesTruth default (Some d) (truth_in default (Some d))
truth_read default (boolean b) good = refl
truth_read default _ good = absurd (true≢false (sym good.kind))

pub truth_given : (default : Bool) (o : Option Data) → NoFault form.Truth Optional o → GivesTruth default o (truth_in default o)
truth_given default = given form.Truth (λ o. GivesTruth default o (truth_in default o)) refl (truth_read default)

text_read : (d : Data) → is_text d ≡ true → Some d ≡ Some (string (text_in (Some d)))
text_read (string s) e = refl
text_read _ e = absurd (true≢false (sym e))

-- of a form whose values are texts
pub text_there : (f : Form) → ((d : Data) → has_kind f d ≡ is_text d) → (o : Option Data) → NoFault f Required o → o ≡ Some (string (text_in o))
text_there f texts = there f (λ o. o ≡ Some (string (text_in o))) (λ d good. text_read d (sym (texts d) ∙ good.kind))

pub name_there : (o : Option Data) → NoFault form.Name Required o → o ≡ Some (string (text_in o))
name_there = text_there form.Name (λ d. refl)

-- one of the two words
algorithm_is : (s : List ℕ) (b c : Bool) → bytes_eq s (codes "sha512") ≡ b → bytes_eq s (codes "sha256") ≡ c → (c || b) ≡ true
    → s ≡ algo_word (cond b Sha512 Sha256)
algorithm_is s true c long short e = (bytes_eq-Decides s (codes "sha512")).0 long
algorithm_is s false true long short e = (bytes_eq-Decides s (codes "sha256")).0 short
algorithm_is s false false long short e = cc

pub algorithm_read : (d : Data) → IsGood form.Algorithm d → Some d ≡ Some (string (algo_word (algorithm_in (Some d))))
algorithm_read (string s) good = ap (λ t. Some (string t)) (algorithm_is s _ _ refl refl good.within)
algorithm_read _ good = absurd (true≢false (sym good.kind))

decoded : (r : Result (List ℕ) FromHexError) (bytes : List ℕ) → IsOk r → r ≡ Ok (result_unwrap_or r bytes)
decoded (Ok xs) bytes h = refl
decoded (Err f) bytes h = cc

pub bytes_read : (d : Data) → IsGood (form.Digits 128) d → GivesBytes (Some d) (digits_in (Some d))
bytes_read (string s) good =
    let parts = and_parts (length s == 128) (list_all is_hex_digit s) good.within in
    let long : length s ≡ 128 = eqb-true _ _ parts.0 in
    decoded (decode_sized s 64) (zeros 64) ((IsOk-decode_sized s 64).1 (long, AllPass-from_list_all is_hex_digit s parts.1))
bytes_read _ good = absurd (true≢false (sym good.kind))

-- one of the two words
rule_is : (s : List ℕ) (a b : Bool) → bytes_eq s (codes "all") ≡ a → bytes_eq s (codes "runnable") ≡ b → (a || b) ≡ true
    → GivesRule Two (Some (string s)) (cond a (Some All) (cond b (Some Runnable) None))
rule_is s true b all runnable e = ap string ((bytes_eq-Decides s (codes "all")).0 all)
rule_is s false true all runnable e = ap string ((bytes_eq-Decides s (codes "runnable")).0 runnable)
rule_is s false false all runnable e = cc

pub rule_read : (d : Data) → IsGood form.RecRule d → GivesRule Two (Some d) (rule_in (Some d))
rule_read (string s) good = rule_is s _ _ refl refl good.within
rule_read _ good = absurd (true≢false (sym good.kind))

-- ---- regions

range_given : (o p : Option Data) → is_range o p ≡ true
    → (o ≡ Some (integer (pos (region_of (whole_in o) (whole_in p)).base))) × (p ≡ Some (integer (pos (region_of (whole_in o) (whole_in p)).end)))
range_given (Some (integer (pos base))) (Some (integer (pos end))) e = let read = reads_as base end e in (rw read.0 refl, rw read.1 refl)
range_given _ _ e = cc

each_region : (ds : List Data) → list_all is_range_pair ds ≡ true → EachGives GivesRegion ds (map region_in ds)
each_region [] e = tt
each_region (d ∷ ds) e =
    let parts = and_parts (is_range_pair d) (list_all is_range_pair ds) e in (range_given (at 0 d) (at 1 d) parts.0, each_region ds parts.1)

regions_read : (most : ℕ) (d : Data) → IsGood (form.Regions most) d → EachGives GivesRegion (items_in (Some d)) (map region_in (items_in (Some d)))
regions_read most (array ds) good = each_region (items_list ds) good.within
regions_read most _ good = absurd (true≢false (sym good.kind))

pub regions_given : (most : ℕ) (o : Option Data) → NoFault (form.Regions most) Optional o
    → EachGives GivesRegion (items_in o) (map region_in (items_in o))
regions_given most = given (form.Regions most) (λ o. EachGives GivesRegion (items_in o) (map region_in (items_in o))) tt (regions_read most)

-- ---- words

spelled : (s : List ℕ) (n : ℕ) (b : Bool) → bytes_eq (take 2 s) (codes "0x") ≡ b → hex_number (cond b (Some (drop 2 s)) None) ≡ Some n
    → SpellsWord (string s) n
spelled s n false begins e = cc
spelled s n true begins e = go (are_digits 16 16 (drop 2 s)) e
  where
    go : (u : Bool) → cond u (Some (digits_value 16 (drop 2 s))) None ≡ Some n → SpellsWord (string s) n
    go true h =
        let first : take 2 s ≡ codes "0x" = (bytes_eq-Decides (take 2 s) (codes "0x")).0 begins in
        let value : digits_value 16 (drop 2 s) ≡ n = cc in
        (drop 2 s, sym (take-append-drop 2 s) ∙ ap (λ ts. ts ++ drop 2 s) first, value)
    go false h = cc

word_spelled : (d : Data) (n : ℕ) → word_of d ≡ Some n → SpellsWord d n
word_spelled (integer (pos m)) n e = let same : m ≡ n = cc in ap pos same
word_spelled (string s) n e = spelled s n (bytes_eq (take 2 s) (codes "0x")) refl e
word_spelled _ n e = cc

some_word : (d : Data) (o : Option ℕ) → word_of d ≡ o → is_some o ≡ true → (n : ℕ) × (o ≡ Some n) × SpellsWord d n
some_word d (Some n) e h = (n, refl, word_spelled d n e)
some_word d None e h = cc

pub word_read : (d : Data) → IsGood form.Word d → GivesWord (Some d) (word_in (Some d))
word_read d good = let read = some_word d (word_of d) refl good.within in rw read.1 read.2

-- a value at a place of an array whose values are words
word_fills : (ds : Items) (i : ℕ) → list_all is_word (items_list ds) ≡ true → FillsWord (get_item i ds) (word_at (array ds) i)
word_fills no_items i e = refl
word_fills (item d ds) zero e =
    let read = some_word d (word_of d) refl (and_parts (is_word d) (list_all is_word (items_list ds)) e).0 in rw read.1 read.2
word_fills (item d ds) (suc i) e = word_fills ds i (and_parts (is_word d) (list_all is_word (items_list ds)) e).1

pub words_read : (most : ℕ) (d : Data) → IsGood (form.Words most) d → GivesWords (Some d) (words_in (Some d))
words_read most (array ds) good =
    let fills : (i : ℕ) → FillsWord (get_item i ds) (word_at (array ds) i) = λ i. word_fills ds i good.within in
    (refl, (fills 0, (fills 1, (fills 2, (fills 3, (fills 4, (fills 5, (fills 6, (fills 7, tt)))))))))
words_read most _ good = absurd (true≢false (sym good.kind))

-- ---- what an item has

pub size_given : (o : Option Data) → NoFault (form.Number (pos 0) (pos 9223372036854775807)) Optional o → GivesSize o (size_in o)
size_given = given (form.Number (pos 0) (pos 9223372036854775807)) (λ o. GivesSize o (size_in o)) tt (number_read 0 9223372036854775807 0)

-- where it has to be given
pub size_there : (o : Option Data) → NoFault (form.Number (pos 0) (pos 9223372036854775807)) Required o
    → IsSome o × GivesSize o (Some (number_in 0 9223372036854775807 0 o))
size_there =
    there (form.Number (pos 0) (pos 9223372036854775807)) (λ o. IsSome o × GivesSize o (Some (number_in 0 9223372036854775807 0 o)))
    (λ d good. (refl, number_read 0 9223372036854775807 0 d good))

taken_text : (b : Bool) (s : List ℕ) → b ≡ true → GivesBootargs (Some (string s)) (cond b (Some s) None)
taken_text true s e = refl
taken_text false s e = cc

pub bootargs_read : (d : Data) → IsGood form.Bootargs d → GivesBootargs (Some d) (bootargs_in (Some d))
bootargs_read (string s) good = taken_text (has_no_zero s) s good.within
bootargs_read _ good = absurd (true≢false (sym good.kind))

-- the kind that is found, where the words are or are not equal as stated
abbrev found_kind : (a b c d f : Bool) → Option Role
found_kind a b c d f = cond a (Some Kernel) (cond b (Some Initrd) (cond c (Some Dtb) (cond d (Some Raw) (cond f (Some Unknown) None))))

-- one of the five words
word_is : (s : List ℕ) (a b c d f : Bool) → bytes_eq (codes "kernel") s ≡ a → bytes_eq (codes "initrd") s ≡ b
    → bytes_eq (codes "dtb") s ≡ c → bytes_eq (codes "raw") s ≡ d → bytes_eq (codes "unknown") s ≡ f
    → is_some (found_kind a b c d f) ≡ true → s ≡ kind_word (unwrap_or (found_kind a b c d f) Raw)
word_is s true b c d f kernel initrd dtb raw unknown e = sym ((bytes_eq-Decides (codes "kernel") s).0 kernel)
word_is s false true c d f kernel initrd dtb raw unknown e = sym ((bytes_eq-Decides (codes "initrd") s).0 initrd)
word_is s false false true d f kernel initrd dtb raw unknown e = sym ((bytes_eq-Decides (codes "dtb") s).0 dtb)
word_is s false false false true f kernel initrd dtb raw unknown e = sym ((bytes_eq-Decides (codes "raw") s).0 raw)
word_is s false false false false true kernel initrd dtb raw unknown e = sym ((bytes_eq-Decides (codes "unknown") s).0 unknown)
word_is s false false false false false kernel initrd dtb raw unknown e = cc

role_read : (d : Data) → IsGood form.ItemKind d → Some d ≡ Some (string (kind_word (unwrap_or (kind_of_word (text_in (Some d))) Raw)))
role_read (string s) good = ap (λ t. Some (string t)) (word_is s _ _ _ _ _ refl refl refl refl refl good.within)
role_read _ good = absurd (true≢false (sym good.kind))

pub role_there : (o : Option Data) → NoFault form.ItemKind Required o → o ≡ Some (string (kind_word (unwrap_or (kind_of_word (text_in o)) Raw)))
role_there = there form.ItemKind (λ o. o ≡ Some (string (kind_word (unwrap_or (kind_of_word (text_in o)) Raw)))) role_read

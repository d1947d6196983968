-- No word has a space or a newline in it, so the spaces of a line part its words.
use Rattle.std.proofs.Common.{◌≡◌, ◌≢◌, ◌<◌, length, ℕ, zero, suc, ◌/◌, ◌%◌, Bool, true, false, not, ◌&&◌, cond, List, [], ◌∷◌, map, get_or, refl, ap, ◌∙◌, arith, codes, Option, Some, None}
use Rattle.std.specs.Prelude.{◌==◌}
use Rattle.std.proofs.lemmas.Bool.{and_parts}
use Rattle.std.proofs.lemmas.Bool.Decides.{nat_tests}
use Rattle.std.proofs.lemmas.List.Elements.{All-append, All-cons, All-nil}
use Rattle.std.proofs.lemmas.List.Folds.{list_all-append}
use Rattle.std.proofs.lemmas.List.Splits.{slice_split_at, slice_split_none}
use Rattle.std.specs.Fmt.{decimal, digit_glyph, digits, digits_onto}
use Rattle.std.specs.Int.{to_be_bytes, w64}
use Rattle.std.specs.List.{All, join_with_byte, list_all, slice_split}
use Rattle.hex.specs.Hex.{encode_with, lower_digits}
use Rattle.rim_desc.specs.Number.{digits_of}
use Rattle.rim_desc.specs.declared.command.Command.{Command}
use Rattle.rim_desc.specs.declared.command.Command.TheVariants.{Delegate, RealmCreate, RttCreate, InitRipas, DataCreate, DataCreateUnknown, RecCreate, Activate}
use Rattle.rim_desc.specs.declared.measurement.Algo.{Algo}
use Rattle.rim_desc.specs.declared.measurement.Algo.TheVariants.{Sha256, Sha512}
use Rattle.rim_desc.specs.declared.measurement.Measurement.{Measurement}
use Rattle.rim_desc.specs.declared.rule.RecRule.{RecRule}
use Rattle.rim_desc.specs.declared.rule.RecRule.TheVariants as rule
use Rattle.rmi_line.specs.Line.{content_words, line_of, words_of}
use Rattle.rim_desc.specs.Measurement.{algo_word}
use Rattle.rim_desc.specs.Rule.{rule_word}

-- whether a byte is neither a space nor a newline
abbrev pub is_inner : ℕ → Bool
is_inner b = not (b == 32) && not (b == 10)

-- whether each byte of a word is
unfoldable pub is_word : List ℕ → Bool
is_word word = list_all is_inner word

-- ---- the kinds of words

digit_inner : (table : List ℕ) (d : ℕ) → list_all is_inner table ≡ true → is_inner (get_or table d 0) ≡ true
digit_inner [] d h = refl
digit_inner (x ∷ table) zero h = (and_parts (is_inner x) (list_all is_inner table) h).0
digit_inner (x ∷ table) (suc d) h = digit_inner table d (and_parts (is_inner x) (list_all is_inner table) h).1

encoded : (bytes : List ℕ) → list_all is_inner (encode_with lower_digits bytes) ≡ true
unfolding encode_with
encoded [] = refl
encoded (b ∷ rest) = rw (digit_inner lower_digits (b / 16) refl, digit_inner lower_digits (b % 16) refl, encoded rest) refl

pub is_word-encoded : (bytes : List ℕ) → is_word (encode_with lower_digits bytes) ≡ true
unfolding is_word
is_word-encoded bytes = encoded bytes

glyph_inner : (n : ℕ) → is_inner (digit_glyph false (n % 10)) ≡ true
glyph_inner n = grind (arith, nat_tests)

onto : (k n : ℕ) (rest : List ℕ) → list_all is_inner rest ≡ true → list_all is_inner (digits_onto k 10 false n rest) ≡ true
onto zero n rest h = h
onto (suc k) n rest h =
    let more : list_all is_inner (digit_glyph false (n % 10) ∷ rest) ≡ true = rw (glyph_inner n, h) refl in
    elim (n / 10 == 0) as (λ t. list_all is_inner (cond t (digit_glyph false (n % 10) ∷ rest) (digits_onto k 10 false (n / 10) (digit_glyph false (n % 10) ∷ rest))) ≡ true)
    [ true ↦ more | false ↦ onto k (n / 10) (digit_glyph false (n % 10) ∷ rest) more ]

pub is_word-decimal : (n : ℕ) → is_word (decimal n) ≡ true
unfolding is_word digits
is_word-decimal n = onto 64 n [] refl

pub is_word-algo : (algo : Algo) → is_word (algo_word algo) ≡ true
unfolding is_word
is_word-algo Sha256 = refl
is_word-algo Sha512 = refl

pub is_word-rule : (rule : RecRule) → is_word (rule_word rule) ≡ true
unfolding is_word
is_word-rule rule.All = refl
is_word-rule rule.Runnable = refl

-- ---- the words of a command

is_word-digits : (numbers : List ℕ) → list_all is_word (map digits_of numbers) ≡ true
is_word-digits [] = refl
is_word-digits (n ∷ numbers) = rw (is_word-encoded (to_be_bytes w64 n), is_word-digits numbers) refl

is_word-content : (content : Option Measurement) → list_all is_word (content_words content) ≡ true
unfolding is_word
is_word-content (Some m) = rw (encoded m.bytes) refl
is_word-content None = refl

pub name_is_word : (name : List ℕ) → list_all is_inner name ≡ true → is_word name ≡ true
unfolding is_word
name_is_word name h = h

all_words : (command : Command) → list_all is_word (words_of command) ≡ true
all_words (Delegate granule) = simp (name_is_word (codes "delegate") refl, is_word-encoded)
all_words (RealmCreate rd p) = simp (name_is_word (codes "realm_create") refl, is_word-encoded, is_word-decimal, is_word-algo)
all_words (RttCreate rtt ipa level) = simp (name_is_word (codes "rtt_create") refl, is_word-encoded, is_word-decimal)
all_words (InitRipas base top) = simp (name_is_word (codes "init_ripas") refl, is_word-encoded)
all_words (DataCreate granule ipa content) = simp (name_is_word (codes "data_create") refl, is_word-encoded, is_word-content)
all_words (DataCreateUnknown granule ipa) = simp (name_is_word (codes "data_unknown") refl, is_word-encoded)
all_words (RecCreate rec params) = simp (name_is_word (codes "rec_create") refl, is_word-encoded, is_word-decimal, is_word-digits, list_all-append is_word (map digits_of params.gprs) (decimal (length params.aux) ∷ map digits_of params.aux))
all_words Activate = simp (name_is_word (codes "activate") refl)

-- ---- the spaces of a line

no_space : (b : ℕ) → is_inner b ≡ true → (b == 32) ≡ false
no_space b h = grind (arith, nat_tests)

no_newline : (b : ℕ) → is_inner b ≡ true → b ≢ 10
no_newline b h = grind (arith, nat_tests)

lacks : (P : ℕ → Type 0) → ((b : ℕ) → is_inner b ≡ true → P b) → (word : List ℕ) → is_word word ≡ true → All P word
unfolding is_word
lacks P each [] h = All-nil P
lacks P each (b ∷ word) h =
    let parts = and_parts (is_inner b) (list_all is_inner word) h in
    All-cons P b word (each b parts.0) (lacks P each word parts.1)

parted : (word : List ℕ) (words : List (List ℕ)) → list_all is_word (word ∷ words) ≡ true
    → slice_split (λ b. b == 32) (join_with_byte 32 (word ∷ words)) ≡ word ∷ words
parted word [] h = slice_split_none (λ b. b == 32) word (lacks (λ b. (b == 32) ≡ false) no_space word (and_parts (is_word word) true h).0)
parted word (next ∷ words) h =
    let parts = and_parts (is_word word) (list_all is_word (next ∷ words)) h in
    slice_split_at (λ b. b == 32) word 32 (join_with_byte 32 (next ∷ words)) (lacks (λ b. (b == 32) ≡ false) no_space word parts.0) refl
    ∙ ap (λ ws. word ∷ ws) (parted next words parts.1)

pub one_line : (words : List (List ℕ)) → list_all is_word words ≡ true → All (λ b. b ≢ 10) (join_with_byte 32 words)
one_line [] h = All-nil (λ b. b ≢ 10)
one_line (word ∷ []) h = lacks (λ b. b ≢ 10) no_newline word (and_parts (is_word word) true h).0
one_line (word ∷ next ∷ words) h =
    let parts = and_parts (is_word word) (list_all is_word (next ∷ words)) h in
    All-append (λ b. b ≢ 10) word (32 ∷ join_with_byte 32 (next ∷ words)) (lacks (λ b. b ≢ 10) no_newline word parts.0)
    (All-cons (λ b. b ≢ 10) 32 (join_with_byte 32 (next ∷ words)) (λ e. cc e) (one_line (next ∷ words) parts.1))

pub line_of-split : (command : Command) → slice_split (λ b. b == 32) (line_of command) ≡ words_of command
unfolding line_of
line_of-split command = from_name (words_of command) (all_words command) (named command)
  where
    from_name : (words : List (List ℕ)) → list_all is_word words ≡ true → 0 < length words → slice_split (λ b. b == 32) (join_with_byte 32 words) ≡ words
    from_name [] h some = absurd (omega arith)
    from_name (word ∷ words) h some = parted word words h

    named : (command : Command) → 0 < length (words_of command)
    named (Delegate granule) = omega arith
    named (RealmCreate rd p) = omega arith
    named (RttCreate rtt ipa level) = omega arith
    named (InitRipas base top) = omega arith
    named (DataCreate granule ipa content) = omega arith
    named (DataCreateUnknown granule ipa) = omega arith
    named (RecCreate rec params) = omega arith
    named Activate = omega arith

pub line_of-one_line : (command : Command) → All (λ b. b ≢ 10) (line_of command)
unfolding line_of
line_of-one_line command = one_line (words_of command) (all_words command)

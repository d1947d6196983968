-- The first and the last line of a listing, word by word.
use Rattle.std.proofs.Common.{◌≡◌, ℕ, List, [], ◌∷◌, ◌++◌, get_or, ap, refl, subst, sym, arith, ◌∙◌, ◌≢◌}
use Rattle.std.specs.Prelude.{None, Option, Some, codes}
use Rattle.std.specs.Fmt.{decimal}
use Rattle.std.specs.List.{All, flat_map, join_with_byte}
use Rattle.std.proofs.lemmas.List.{append-nil, append_cancel_left}
use Rattle.rim_desc.specs.Measurement.{algo_word}
use Rattle.rim_desc.specs.Rule.{rule_word}
use Rattle.rim_desc.specs.declared.measurement.Algo.{Algo}
use Rattle.rim_desc.specs.declared.measurement.Algo.TheVariants.{Sha256, Sha512}
use Rattle.rim_desc.specs.declared.rule.RecRule.{RecRule}
use Rattle.hex.specs.Hex.{encode_lower}
use Rattle.rmi_line.specs.Ends.{digest_bytes, first_line, last_line, spaced_word}
use Rattle.rmi_line.specs.Spelled.{Reads}
use Rattle.rmi_line.specs.inside.Words.{spaced}
use Rattle.rmi_line.proofs.ReadNamed.{not_named}
use Rattle.rmi_line.proofs.SpacesPartWords.{is_word-algo, is_word-decimal, is_word-encoded, is_word-rule, name_is_word, one_line}

pub first-words : (n : ℕ) → codes "rim-list 1 aux" ++ flat_map spaced (decimal n ∷ []) ≡ first_line n None
first-words n = ap (λ t. codes "rim-list 1 aux " ++ t) (append-nil (decimal n))

pub ruled-words : (n : ℕ) (r : RecRule) → codes "rim-list 2 aux" ++ flat_map spaced (decimal n ∷ codes "rec" ∷ rule_word r ∷ []) ≡ first_line n (Some r)
ruled-words n r = ap (λ t. codes "rim-list 2 aux " ++ (decimal n ++ (codes " rec " ++ t))) (append-nil (rule_word r))

pub last-words : (algo : Algo) (digits : List ℕ) → flat_map spaced (algo_word algo ∷ digits ∷ []) ≡ spaced_word algo ++ digits
last-words Sha256 digits = ap (λ t. codes " sha256 " ++ t) (append-nil digits)
last-words Sha512 digits = ap (λ t. codes " sha512 " ++ t) (append-nil digits)

-- what is after a front is the same
pub same-rest : (front line rest others : List ℕ) → line ≡ front ++ rest → line ≡ front ++ others → rest ≡ others
same-rest front line rest others a b = append_cancel_left front rest others (sym a ∙ b)

-- no two algorithms have one word
pub same-algo : (a b : Algo) (words : List (List ℕ)) → flat_map spaced (algo_word a ∷ words) ≡ flat_map spaced (algo_word b ∷ words) → a ≡ b
same-algo Sha256 Sha256 words same = refl
same-algo Sha256 Sha512 words same = let differs : 50 ≡ 53 = ap (λ line. get_or line 4 0) same in absurd (omega (arith, differs))
same-algo Sha512 Sha256 words same = let differs : 53 ≡ 50 = ap (λ line. get_or line 4 0) same in absurd (omega (arith, differs))
same-algo Sha512 Sha512 words same = refl

-- no line is of both versions
pub one-version : (one two : List ℕ) → codes "rim-list 1 aux" ++ one ≢ codes "rim-list 2 aux" ++ two
one-version one two same = let differs : 49 ≡ 50 = ap (λ line. get_or line 9 0) same in omega (arith, differs)

-- ---- beside the lines of commands

-- no byte of either is a newline
pub first-one_line : (n : ℕ) (rule : Option RecRule) → All (λ b. b ≢ 10) (first_line n rule)
first-one_line n None =
    one_line (codes "rim-list" ∷ codes "1" ∷ codes "aux" ∷ decimal n ∷ [])
    (simp (name_is_word (codes "rim-list") refl, name_is_word (codes "1") refl, name_is_word (codes "aux") refl, is_word-decimal))
first-one_line n (Some r) =
    one_line (codes "rim-list" ∷ codes "2" ∷ codes "aux" ∷ decimal n ∷ codes "rec" ∷ rule_word r ∷ [])
    (simp (name_is_word (codes "rim-list") refl, name_is_word (codes "2") refl, name_is_word (codes "aux") refl, is_word-decimal, name_is_word (codes "rec") refl, is_word-rule))

pub last-one_line : (algo : Algo) (rim : List ℕ) → All (λ b. b ≢ 10) (last_line algo rim)
last-one_line algo rim = subst (All (λ b. b ≢ 10)) (joined algo) (one_line (codes "rim" ∷ algo_word algo ∷ digits ∷ []) (simp (name_is_word (codes "rim") refl, is_word-algo, is_word-encoded)))
  where
    digits : List ℕ
    digits = encode_lower (digest_bytes algo rim)

    joined : (a : Algo) → join_with_byte 32 (codes "rim" ∷ algo_word a ∷ digits ∷ []) ≡ codes "rim" ++ (spaced_word a ++ digits)
    joined Sha256 = refl
    joined Sha512 = refl

-- the last line spells no command: no name has its second byte
pub last-no_command : (algo : Algo) (rim : List ℕ) → Reads (last_line algo rim) None
last-no_command algo rim =
    not_named (last_line algo rim)
    (λ rest e. apart 101 (second algo ∙ ap (λ line. get_or line 1 0) e) (λ i. omega (arith, i)))
    (λ rest e. apart 97 (second algo ∙ ap (λ line. get_or line 1 0) e) (λ i. omega (arith, i)))
    (λ rest e. apart 97 (second algo ∙ ap (λ line. get_or line 1 0) e) (λ i. omega (arith, i)))
    (λ rest e. apart 116 (second algo ∙ ap (λ line. get_or line 1 0) e) (λ i. omega (arith, i)))
    (λ rest e. apart 110 (second algo ∙ ap (λ line. get_or line 1 0) e) (λ i. omega (arith, i)))
    (λ rest e. apart 101 (second algo ∙ ap (λ line. get_or line 1 0) e) (λ i. omega (arith, i)))
    (λ rest e. apart 101 (second algo ∙ ap (λ line. get_or line 1 0) e) (λ i. omega (arith, i)))
    (λ rest e. apart 99 (second algo ∙ ap (λ line. get_or line 1 0) e) (λ i. omega (arith, i)))
  where
    second : (a : Algo) → 105 ≡ get_or (last_line a rim) 1 0
    second Sha256 = refl
    second Sha512 = refl

    apart : (byte : ℕ) → 105 ≡ byte → (105 ≡ byte → ⊥) → ⊥
    apart byte same differs = differs same

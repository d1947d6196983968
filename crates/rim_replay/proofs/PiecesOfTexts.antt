-- A text is cut at its newlines: what its first line and the rest are, and where it ends.
use Rattle.std.proofs.Common.{◌≡◌, ◌≢◌, ℕ, ◌∙◌, Bool, true, false, List, [], ◌∷◌, ◌++◌, length, Err, refl, ap, arith}
use Rattle.std.specs.Prelude.{◌==◌}
use Rattle.std.specs.List.{All, onto_first, slice_split}
use Rattle.std.proofs.lemmas.Bool.Decides.{nat_tests}
use Rattle.std.proofs.lemmas.List.Splits.{length-slice_split, slice_split-cons_no, slice_split-cons_yes, slice_split_at, slice_split_none}
use Rattle.rim_replay.specs.Replay.{ended}
use Rattle.rim_replay.specs.declared.fault.ReplayFault.TheVariants as fault

abbrev pub is_newline : ℕ → Bool
is_newline b = b == 10

abbrev pub pieces : List ℕ → List (List ℕ)
pieces text = slice_split is_newline text

-- a text has a first piece
pub some-piece : (text : List ℕ) → (next : List ℕ) × (rest : List (List ℕ)) × (pieces text ≡ next ∷ rest)
some-piece text = by (pieces text) refl
  where
    by : (ps : List (List ℕ)) → pieces text ≡ ps → (next : List ℕ) × (rest : List (List ℕ)) × (pieces text ≡ next ∷ rest)
    by [] is = let count = length-slice_split is_newline text in let none : length (pieces text) ≡ 0 = ap length is in absurd (omega (arith, count, none))
    by (p ∷ ps) is = (p, ps, is)

none-newline : (line : List ℕ) → All (λ b. b ≢ 10) line → All (λ b. is_newline b ≡ false) line
none-newline line inner k d lt = other _ (inner k d lt)
  where
    other : (b : ℕ) → b ≢ 10 → is_newline b ≡ false
    other b differs = grind (arith, nat_tests, differs)

pub one-piece : (text : List ℕ) → All (λ b. b ≢ 10) text → pieces text ≡ text ∷ []
one-piece text inner = slice_split_none is_newline text (none-newline text inner)

pub cut-piece : (text line rest : List ℕ) → text ≡ line ++ (10 ∷ rest) → All (λ b. b ≢ 10) line → pieces text ≡ line ∷ pieces rest
cut-piece text line rest is inner = ap pieces is ∙ slice_split_at is_newline line 10 rest (none-newline line inner) refl

-- what follows a last line is at fault
pub something-follows : (n : ℕ) (text : List ℕ) → text ≢ [] → ended n (pieces text) ≡ Err (fault.Line n)
something-follows n [] some = absurd (some refl)
something-follows n (b ∷ text) some = by (is_newline b) refl
  where
    by : (c : Bool) → is_newline b ≡ c → ended n (pieces (b ∷ text)) ≡ Err (fault.Line n)
    by true is = ap (ended n) (slice_split-cons_yes is_newline b text is ∙ ap (λ ps. [] ∷ ps) (some-piece text).2)
    by false is = ap (ended n) (slice_split-cons_no is_newline b text is ∙ ap (onto_first b) (some-piece text).2)

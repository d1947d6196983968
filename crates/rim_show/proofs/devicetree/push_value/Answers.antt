use Rattle.std.proofs.Common.{◌≡◌, ℕ, List, [], ◌∷◌, ◌++◌, length, true, false, refl, ◌∙◌, append_assoc, codes}
use Rattle.std.specs.Prelude.{◌==◌}
use Rattle.std.proofs.Math.Dec.{eqb-suc-zero}
use Rattle.std.proofs.lemmas.Bool.{true≢false}
use Rattle.std.proofs.lemmas.List.{append-nil}
use Rattle.hex.specs.Hex.{encode_lower}
use Rattle.rim_show.specs.ShownDevicetree.{value_text}
use Rattle.rim_show.proofs.devicetree.push_value.Goals as goal

no_value : (value : List ℕ) → true ≡ (length value == 0) → value_text value ≡ []
no_value [] h = refl
no_value (b ∷ bs) h = absurd (true≢false (h ∙ eqb-suc-zero (length bs)))

some_value : (value : List ℕ) → false ≡ (length value == 0) → value_text value ≡ codes " " ++ encode_lower value
some_value [] h = cc
some_value (b ∷ bs) h = refl

pub returns-then-is_empty : goal.returns-then-is_empty
returns-then-is_empty c = rw (no_value c.args.value.now c.if-is_empty.ensures, append-nil)

pub returns : goal.returns
returns c = rw (
  c.in_ok-extend_from_slice-2.ensures.items,
  c.in_ok-extend_from_slice.ensures.items,
  c.as_bytes.ensures.value,
  c.in_ok-digits.ensures,
  some_value c.args.value.now c.if-is_empty.ensures,
  append_assoc,
)

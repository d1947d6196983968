-- A launch of a manifest is shown by its name as that is: the bytes that a name may have are all shown as they are.
use Rattle.std.proofs.Common.{◌≡◌, ◌<◌, ◌^◌, ℕ, true, List, [], ◌∷◌, Some, arith, refl}
use Rattle.std.specs.List.{list_all}
use Rattle.std.proofs.lemmas.Bool.{and_from, and_parts}
use Rattle.std.proofs.lemmas.Bool.Decides.{nat_tests}
use Rattle.rim_rules.specs.Forms.{is_name, is_name_byte}
use Rattle.shown_text.specs.Shown.{is_plain}
use Rattle.shown_text.specs.Lines.{IsKnown, launch_text}
use Rattle.shown_text.proofs.PlainNames.{launch-plain}

byte-plain : (b : ℕ) → is_name_byte b ≡ true → is_plain b ≡ true
byte-plain b named = grind (arith, nat_tests)

name-plain : (name : List ℕ) → list_all is_name_byte name ≡ true → list_all is_plain name ≡ true
name-plain [] named = refl
name-plain (b ∷ name) named =
    let parts = and_parts (is_name_byte b) (list_all is_name_byte name) named in
    and_from (is_plain b) (list_all is_plain name) (byte-plain b parts.0) (name-plain name parts.1)

-- what is known of the place of such a launch, and of others that are counted, is the place
pub names-are-shown : (name place : List ℕ) (others : ℕ) → others < 2 ^ 64 → is_name name ≡ true
    → IsKnown (Some (launch_text name others)) place → place ≡ launch_text name others
names-are-shown name place others low named known = known (launch-plain name others low (name-plain name (and_parts _ (list_all is_name_byte name) named).1))

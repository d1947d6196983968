-- Reading token after token, as the loop does.
use Rattle.std.proofs.Common.{◌≡◌, ℕ, suc, ◌+◌, ◌-◌, ◌<◌, ◌≤◌, List, [], Result, Ok, Err, refl, sym, ap, ◌∙◌, arith}
use Rattle.fdt_header.specs.declared.fault.FdtFault.{FdtFault}
use Rattle.fdt_header.specs.declared.fault.FdtFault.TheVariants.{BadToken}
use Rattle.fdt_tree.specs.declared.reading.lexing.Token.{Token as Read}
use Rattle.fdt_tree.specs.declared.reading.lexing.Token.TheVariants as variants
use Rattle.fdt_tree.specs.inside.TokenViews.{as_token}
use Rattle.fdt_tree.specs.Devicetree.{Token, begin_node, property, end_node, nop, finish}
use Rattle.refusal.specs.Answer.{◌>>=◌, with_front}
use Rattle.fdt_tree.specs.declared.reading.place.Place.{Place}
use Rattle.fdt_tree.specs.Scanning.{after, token_at, joins, scan}
use Rattle.fdt_tree.specs.inside.OpenNodes.{added}

pub not_finish : (strings : List ℕ) (l : Read) → (l ≡ variants.Finish → ⊥) → as_token strings l ≡ finish → ⊥
not_finish strings (variants.Begin n) h e = cc
not_finish strings (variants.Property b n v) h e = cc
not_finish strings variants.EndNode h e = cc
not_finish strings variants.Nop h e = cc
not_finish strings variants.Finish h e = h refl

one_more : (strings : List ℕ) (count i : ℕ) (p : Place) (bytes : List ℕ) → i < count
    → scan strings (count - i) p bytes ≡ (token_at strings p bytes >>= λ t. joins t.0 (scan strings (count - (i + 1)) (after p t.0) t.1))
unfolding scan
one_more strings count i p bytes lt = let k : count - i ≡ suc (count - (i + 1)) = omega arith in rw k refl

joins_added : (t : Token) (more : Result (List Token) FdtFault) → (t ≡ finish → ⊥) → joins t more ≡ with_front (added t) more
joins_added (begin_node n) more h = refl
joins_added (property e) more h = refl
joins_added end_node more h = refl
joins_added nop (Ok ts) h = refl
joins_added nop (Err f) h = refl
joins_added finish more h = absurd (h refl)

pub scan_goes_on : (strings : List ℕ) (count i : ℕ) (p p' : Place) (bytes rest : List ℕ) (t : Token) → i < count → token_at strings p bytes ≡ Ok (t, rest)
    → (t ≡ finish → ⊥) → p' ≡ after p t
    → scan strings (count - i) p bytes ≡ with_front (added t) (scan strings (count - (i + 1)) p' rest)
scan_goes_on strings count i p p' bytes rest t lt h more_comes q =
    one_more strings count i p bytes lt ∙ rw (h, q) (joins_added t (scan strings (count - (i + 1)) (after p t) rest) more_comes)

pub scan_fails : (strings : List ℕ) (count i : ℕ) (p : Place) (bytes : List ℕ) (f : FdtFault) → i < count → token_at strings p bytes ≡ Err f
    → scan strings (count - i) p bytes ≡ Err f
scan_fails strings count i p bytes f lt h = one_more strings count i p bytes lt ∙ rw h refl

pub scan_ends : (strings : List ℕ) (count i : ℕ) (p : Place) (bytes rest : List ℕ) → i < count → token_at strings p bytes ≡ Ok (finish, rest)
    → scan strings (count - i) p bytes ≡ Ok []
scan_ends strings count i p bytes rest lt h = one_more strings count i p bytes lt ∙ rw h refl

pub scan_is_over : (strings : List ℕ) (count i : ℕ) (p : Place) (bytes : List ℕ) → count ≤ i → scan strings (count - i) p bytes ≡ Err BadToken
unfolding scan
scan_is_over strings count i p bytes le = let k : count - i ≡ 0 = omega arith in rw k refl

pub at_place : (strings bytes : List ℕ) (p q : Place) (r : Result (Token × List ℕ) FdtFault) → p ≡ q → token_at strings p bytes ≡ r
    → token_at strings q bytes ≡ r
at_place strings bytes p q r same e = ap (λ (x : Place). token_at strings x bytes) (sym same) ∙ e

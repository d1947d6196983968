-- The place of a fault is that of its table and its key.
use Rattle.std.proofs.Common.{◌≡◌, ◌++◌, List, ℕ, Option, Some, None, subst}
use Rattle.std.specs.Prelude.{IfSome, option_map}
use Rattle.toml.specs.Data.{Members}
use Rattle.rim_manifest.specs.Faults.{kind_of}
use Rattle.rim_manifest.specs.declared.finding.Finding.{Finding}
use Rattle.rim_check.specs.Explained.{fault_said}
use Rattle.rim_hints.specs.Fronts.{place_text, spot_text}
use Rattle.rim_check.specs.inside.Listed.{located}
use Rattle.shown_text.specs.declared.remark.Remark.{Remark}
use Rattle.shown_text.specs.Lines.{IsKnown, Says, word_of}
use Rattle.rim_spot.specs.declared.spot.Spot.{Spot}

-- the place of a fault is known as far as its place in the document is
known-place : (place : Option (List ℕ)) (path spot bytes text : List ℕ) → IfSome place (λ known. bytes ≡ known)
    → IsKnown (Some (path ++ (spot ++ bytes))) text → IsKnown (option_map (λ known. path ++ (spot ++ known)) place) text
known-place None path spot bytes text same is = tt
known-place (Some known) path spot bytes text same is = subst (λ (own : List ℕ). IsKnown (Some (path ++ (spot ++ own))) text) same is

-- a remark with this place and this word is that of a fault
pub says-fault : (path : List ℕ) (ms : Members) (f : Finding) (spot : Option Spot) (bytes shown : List ℕ) (r : Remark)
    → IfSome (place_text ms f.place f.subject) (λ known. bytes ≡ known) → shown ≡ bytes → word_of r.word ≡ Some (kind_of f.fault)
    → IsKnown (Some (path ++ (spot_text spot ++ shown))) r.place.text.items → Says (fault_said path (Some ms) (located f spot)) r
says-fault path ms f spot bytes shown r known same is place =
    let own = subst (λ (text : List ℕ). IsKnown (Some (path ++ (spot_text spot ++ text))) r.place.text.items) same place in
    record {
      word = is;
      place = known-place (place_text ms f.place f.subject) path (spot_text spot) bytes r.place.text.items known own;
      given = tt;
      expected = tt;
      help = tt;
    }

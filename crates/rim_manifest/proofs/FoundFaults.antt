-- What is found of a document, from what its tables and its names are found to be.
use Rattle.std.proofs.Common.{◌≡◌, ℕ, List, Option, Some, None, Ok, Err, is_some, true, false, ◌⊎◌, inl, inr, refl, sym, ap, ◌∙◌}
use Rattle.std.specs.Prelude.{All, Contains}
use Rattle.toml.specs.Data.{Members}
use Rattle.rim_manifest.specs.declared.fault.ManifestFault.{ManifestFault}
use Rattle.rim_manifest.specs.Faults.{lowest}
use Rattle.rim_manifest.specs.Found.{AreFound, AreListed}
use Rattle.rim_manifest.specs.Launches.{ReleaseData}
use Rattle.rim_manifest.specs.Manifest.{fault_or_named, manifest_faults, name_faults, named_of, read_of}
use Rattle.rim_manifest.proofs.LowestFault.{none_noted}

pub found_in_tables : (ms : Members) (fs : List ManifestFault) (more : ℕ) → AreListed (manifest_faults ms) fs more → is_some (lowest fs) ≡ true
    → AreFound ms fs more
found_in_tables ms fs more are some = go (lowest fs) refl some
  where
    go : (o : Option ManifestFault) → lowest fs ≡ o → is_some o ≡ true → AreFound ms fs more
    go (Some f) e h = record {
      fault = f;
      refused = ap (fault_or_named ms) (sym are.lowest ∙ e);
      lowest = e;
      tables = λ _. are;
      names = λ none. let no_fault : None ≡ Some f = sym (ap lowest none) ∙ sym are.lowest ∙ e in cc;
    }
    go None e h = cc

pub found_in_names : (ms : Members) (fs : List ManifestFault) (more : ℕ) (f : ManifestFault) → lowest (manifest_faults ms) ≡ None
    → named_of ms ≡ Err f → lowest fs ≡ Some f → (named_of ms ≡ Err f → All (Contains (name_faults ms)) fs) → AreFound ms fs more
found_in_names ms fs more f none refused least among = record {
  fault = f;
  refused = ap (fault_or_named ms) none ∙ refused;
  lowest = least;
  tables = λ some. absurd (some (none_noted (manifest_faults ms) none));
  names = λ _. among refused;
}

pub accepted : (ms : Members) (r : ReleaseData) → lowest (manifest_faults ms) ≡ None → named_of ms ≡ Ok r → read_of ms ≡ Ok r
accepted ms r none read = ap (fault_or_named ms) none ∙ read

-- no table has a fault where none of those that are listed is the lowest
pub none_lowest : (ms : Members) (fs : List ManifestFault) (more : ℕ) (o : Option ManifestFault) → AreListed (manifest_faults ms) fs more → o ≡ lowest fs
    → is_some o ≡ false → lowest (manifest_faults ms) ≡ None
none_lowest ms fs more None are least none = sym are.lowest ∙ sym least
none_lowest ms fs more (Some f) are least none = cc

-- what is answered in place of want of memory
pub not_memory : {P : Type 0} (f g : ManifestFault) → (f ≡ g → ⊥) → (f ≡ g) ⊎ P → P
not_memory f g other (inl memory) = absurd (other memory)
not_memory f g other (inr p) = p

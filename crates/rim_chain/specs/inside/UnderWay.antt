-- Chains that are under way. This project's choice.
use Rattle.std.specs.Prelude.{◌≡◌, ◌<◌, ◌≤◌, ℕ, Bool, true, false, List, [], length, slice_index_or}
use Rattle.std.specs.List.{All}
use Rattle.rim_desc.specs.Measurement.{measurement_of}
use Rattle.rim_desc.specs.declared.measurement.Measurement.{Measurement}
use Rattle.rim_chain.specs.Chains.{ChainView, IsNext}
use Rattle.launch_plan.specs.Fitting.{IsFitting}
use Rattle.launch_plan.specs.Links.{keys_of}
use Rattle.launch_plan.specs.declared.link.Link.{Link}

-- a chain with another measurement
abbrev pub set_to : ChainView → List ℕ → ChainView
set_to c value = record c { value = value }

-- the next part of a chain was taken, and has this descriptor; or none was
abbrev pub MayBeTaken : Bool → ChainView → ChainView → List ℕ → Type 0
MayBeTaken true before after descriptor = IsNext before (set_to after (measurement_of after.algo descriptor))
MayBeTaken false before after descriptor = IsNext before after

-- a chain has another measurement where its next part was taken
abbrev pub set_where : Bool → ChainView → List ℕ → ChainView
set_where true c value = set_to c value
set_where false c value = c

-- the next part of each of the first chains was taken where that is noted, and the others are as before
pub record HaveTaken (count : ℕ) (before after : List ChainView) (descriptors : List (List ℕ)) (taken : List Bool) : Type 0 where
  pub size : length after ≡ length before
  pub first : (k : ℕ) (d : ChainView) → k < count
      → MayBeTaken (slice_index_or taken k false) (slice_index_or before k d) (slice_index_or after k d) (slice_index_or descriptors k [])
  pub others : (k : ℕ) (d : ChainView) → count ≤ k → slice_index_or after k d ≡ slice_index_or before k d

-- those of the first chains of which a part was taken have other measurements
pub record AreSet (count : ℕ) (before after : List ChainView) (values : List (List ℕ)) (taken : List Bool) : Type 0 where
  pub size : length after ≡ length before
  pub first : (k : ℕ) (d : ChainView) → k < count → slice_index_or after k d ≡ set_where (slice_index_or taken k false) (slice_index_or before k d) (slice_index_or values k [])
  pub others : (k : ℕ) (d : ChainView) → count ≤ k → slice_index_or after k d ≡ slice_index_or before k d

-- links that fit, and as many digests as they have measured pages
pub record AreLeft (links : List Link) (digests : List Measurement) : Type 0 where
  pub fit : All IsFitting links
  pub filled : length digests ≡ length (keys_of links)

-- The laws on what a Realm Initial Measurement binds. DEN0137, "Realm Initial Measurement"; nothing is assumed about SHA-2.
use Rattle.std.specs.Prelude.{◌≡◌, ◌⊎◌, ℕ, List, ◌∷◌, map, Ok, Option}
use Rattle.std.specs.List.{AllByRecursion}
use Rattle.rim_desc.specs.Page.{zeros}
use Rattle.rim_desc.specs.Part.{Part, Realm, rim_of}
use Rattle.rim_desc.specs.declared.command.Command.{Command}
use Rattle.rim_desc.specs.declared.measurement.Algo.{Algo}
use Rattle.rim_desc.specs.declared.rule.RecRule.{RecRule}
use Rattle.rim_launch.specs.LaunchData.{LaunchData}
use Rattle.ipa_layout.specs.Layout.{PlacedData}
use Rattle.rim_accepted.specs.Accepted.{accepted_of, rim_for}
use Rattle.rmm_model.specs.State.{empty_state}
use Rattle.rim_binding.specs.Chain.{Fits, IsChained, IsPage}
use Rattle.rim_binding.specs.Collision.{CollisionBetween}
use Rattle.rim_binding.specs.Event.{Event, IsHashed, part_of}
use Rattle.rim_binding.specs.HostEvents.{IsBuilt, Memory, host_events}
use Rattle.rim_binding.specs.LaunchEvents.{launch_events}

-- the same events in the same order, or a collision between a message of the first and a message of the second
abbrev pub SameOrCollision : Algo → List Event → List Event → Type 0
SameOrCollision algo xs ys = (xs ≡ ys) ⊎ CollisionBetween algo (IsHashed algo xs) (IsHashed algo ys)

-- the launch is accepted, p is where its items are, and m is its measurement
pub record HasRim (files : List (List ℕ)) (l : LaunchData) (p : PlacedData) (m : List ℕ) : Type 0 where
  pub accepted : accepted_of l files ≡ Ok p
  pub rim : rim_for l files ≡ Ok m

-- m is the measurement of a realm with these events
abbrev pub IsRimOf : Algo → List ℕ → List Event → Type 0
IsRimOf algo m events = m ≡ rim_of algo (map (part_of algo) events)

-- Any host: take any commands that a monitor accepts. If the realm then has the algorithm and the measurement of an
-- accepted launch, the events of the realm are the launch's.
abbrev pub AnyHost : List (List ℕ) → LaunchData → PlacedData → List Command → Type 0
AnyHost files l p commands = (num_aux : ℕ) (rule : Option RecRule) (memory : Memory) (rim : List ℕ)
    → HasRim files l p rim
    → IsBuilt num_aux rule memory commands l.config.algo rim
    → SameOrCollision l.config.algo (host_events memory (empty_state num_aux rule) commands) (launch_events files l p)

-- Two launches are measured alike: they have the same parameters, ranges of RAM, pages with their bytes, and RECs, in the same order.
abbrev pub MeasuredAlike : List (List ℕ) → LaunchData → PlacedData → List (List ℕ) → LaunchData → PlacedData → Type 0
MeasuredAlike files l p files2 l2 p2 = launch_events files l p ≡ launch_events files2 l2 p2

-- two accepted launches with the same algorithm and the same measurement are measured alike, or two messages collide
abbrev pub TwoLaunches : List (List ℕ) → LaunchData → PlacedData → List (List ℕ) → LaunchData → PlacedData → Type 0
TwoLaunches files l p files2 l2 p2 = (rim : List ℕ) → l.config.algo ≡ l2.config.algo
    → HasRim files l p rim → HasRim files2 l2 p2 rim
    → MeasuredAlike files l p files2 l2 p2
    ⊎ CollisionBetween l.config.algo (IsHashed l.config.algo (launch_events files l p)) (IsHashed l.config.algo (launch_events files2 l2 p2))

-- the other direction: accepted launches that are measured alike have the same measurement
abbrev pub AlikeHaveOneRim : Type 0
AlikeHaveOneRim = (files files2 : List (List ℕ)) (l l2 : LaunchData) (p p2 : PlacedData)
    → accepted_of l files ≡ Ok p → accepted_of l2 files2 ≡ Ok p2
    → MeasuredAlike files l p files2 l2 p2 → rim_for l files ≡ rim_for l2 files2

-- lists of parts that begin with a realm, have no second one, and lead to the same measurement
abbrev pub PartsAreBound : Type 0
PartsAreBound = (algo : Algo) (p q : List ℕ) (xs ys : List Part)
    → IsPage p → IsPage q → AllByRecursion Fits xs → AllByRecursion Fits ys
    → rim_of algo (Realm p ∷ xs) ≡ rim_of algo (Realm q ∷ ys)
    → (Realm p ∷ xs ≡ Realm q ∷ ys)
    ⊎ CollisionBetween algo (IsChained algo (zeros 64) (Realm p ∷ xs)) (IsChained algo (zeros 64) (Realm q ∷ ys))

-- The events of a realm that a host builds with commands of its own choice. DEN0137: the RMI commands that extend the
-- measurement, and what the monitor measures for each.
use Rattle.std.specs.Prelude.{◌≡◌, ℕ, ◌-◌, ◌/◌, true, List, [], ◌∷◌, ◌++◌, map, Option, Some, option_map, ⊤, if◌then◌else◌}
use Rattle.std.specs.List.{AllByRecursion}
use Rattle.rim_desc.specs.Measurement.{measurement_of}
use Rattle.rim_desc.specs.Rule.{extends}
use Rattle.rim_desc.specs.declared.command.Command.{Command}
use Rattle.rim_desc.specs.declared.command.Command.TheVariants.{Activate, DataCreate, DataCreateUnknown, Delegate, InitRipas, RealmCreate, RecCreate, RttCreate}
use Rattle.rim_desc.specs.declared.measurement.Algo.{Algo}
use Rattle.rim_desc.specs.declared.rule.RecRule.{RecRule}
use Rattle.rmm_model.specs.Blocks.{size, stretches}
use Rattle.rmm_model.specs.Checks.{walk_of}
use Rattle.rmm_model.specs.Effects.{is_runnable}
use Rattle.rmm_model.specs.Run.{accepted, after, run}
use Rattle.rmm_model.specs.State.{State, empty_state}
use Rattle.rmm_model.specs.Step.{step}
use Rattle.rim_binding.specs.Chain.{IsPage}
use Rattle.rim_binding.specs.Event.{BecameRam, Created, Event, PageAdded, RecCreated, measured_params, measured_rec}

-- The page that a host puts at each IPA, if it puts one there. A monitor accepts at most one page for an IPA.
pub record Memory : Type 0 where
  pub page : ℕ → List ℕ
  pub is_page : (ipa : ℕ) → IsPage (page ipa)

-- the events of one command
abbrev pub command_events : Memory → State → Command → List Event
command_events memory s (Delegate granule) = []
command_events memory s (RealmCreate rd params) = Created (measured_params params) ∷ []
command_events memory s (RttCreate rtt ipa level) = []
command_events memory s (InitRipas base top) =
    let entry = size (walk_of s.space base) in
    map (λ r. BecameRam r.0 r.1) (stretches ((top - base) / entry) entry base)
command_events memory s (DataCreate granule ipa content) = PageAdded ipa (option_map (λ m. memory.page ipa) content) ∷ []
command_events memory s (DataCreateUnknown granule ipa) = []
command_events memory s (RecCreate rec params) =
    if extends s.rule (is_runnable params.flags) then RecCreated (measured_rec params) ∷ [] else []
command_events memory s Activate = []

-- the events of some commands, from a state on
unfoldable pub host_events : Memory → State → List Command → List Event
host_events memory s [] = []
host_events memory s (c ∷ cs) = command_events memory s c ++ host_events memory (after s (step s c)) cs

-- The monitor measures a page itself, so the content of a command that adds a measured page is the page's measurement.
abbrev pub IsMeasuredPage : Algo → Memory → Command → Type 0
IsMeasuredPage algo memory (DataCreate granule ipa (Some content)) = content.bytes ≡ measurement_of algo (memory.page ipa)
IsMeasuredPage algo memory _ = ⊤

-- A host built a realm. A monitor with this rule and this number of auxiliary granules accepts each command, from its start
-- state on, and measures the host's pages. The realm then has the algorithm a and the measurement m.
pub record IsBuilt (num_aux : ℕ) (rule : Option RecRule) (memory : Memory) (commands : List Command) (a : Algo) (m : List ℕ) : Type 0 where
  pub accepted : accepted (empty_state num_aux rule) commands ≡ true
  pub pages : AllByRecursion (IsMeasuredPage a memory) commands
  pub algo : option_map (λ p. p.algo) (run (empty_state num_aux rule) commands).params ≡ Some a
  pub rim : (run (empty_state num_aux rule) commands).rim ≡ Some m

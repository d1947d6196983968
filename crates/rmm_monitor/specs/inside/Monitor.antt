-- What callers see of a monitor's fields, and what its helpers do. This project's choice.
use Rattle.std.specs.Prelude.{ℕ, [], ◌∷◌, not, option_map, Result}
use Rattle.refusal.specs.Checks.{unless_refused}
use Rattle.rmm_model.specs.declared.outcome.Refused.{Refused}
use Rattle.rmm_model.specs.declared.outcome.Refused.TheVariants.{Assigned, NotDelegated}
use Rattle.rmm_model.specs.Checks.{page_checks}
use Rattle.rmm_model.specs.Effects.{with_page}
use Rattle.rmm_model.specs.Owners.{is_delegated}
use Rattle.rmm_model.specs.Space.{has}
use Rattle.rmm_model.specs.State.{State}
use Rattle.rmm_monitor.specs.declared.monitor.Monitor.TheInside.{Inside}

abbrev pub shown_state : Inside → State
shown_state m = record {
  phase = m.phase;
  params = m.params;
  num_aux = m.num_aux;
  rule = m.rule;
  owners = m.owners;
  space = m.space;
  num_recs = m.num_recs;
  rim = option_map (λ r. r.bytes) m.rim;
}

-- whether a page can get data, and the state with it: what a DataCreate does before it measures, and all that a
-- DataCreateUnknown does
abbrev pub page_taken : State → ℕ → ℕ → Result State Refused
page_taken s granule ipa = unless_refused (page_checks s granule ipa) (with_page s granule ipa)

-- the last two of these checks
abbrev pub assigned : State → ℕ → ℕ → Result State Refused
assigned s granule ipa = unless_refused
    ((Assigned, has s.space.assigned ipa) ∷ (NotDelegated, not (is_delegated s.owners granule)) ∷ [])
    (with_page s granule ipa)

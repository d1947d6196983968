-- The state of a monitor. DEN0137, realm states and realm attributes; that a monitor has one realm, and EMPTY
-- before it was created, is this project's choice.
use Rattle.std.specs.Prelude.{ℕ, List, [], Bool, true, false, Option, Some, None}
use Rattle.rim_desc.specs.Page.{zeros}
use Rattle.rim_desc.specs.declared.measurement.Algo.{Algo}
use Rattle.rim_desc.specs.declared.measurement.Algo.TheVariants.{Sha256}
use Rattle.rim_desc.specs.declared.realm.RealmParams.{RealmParams}
use Rattle.rim_desc.specs.declared.rule.RecRule.{RecRule}
use Rattle.rmm_model.specs.declared.outcome.Kind.{Kind}
use Rattle.rmm_model.specs.declared.outcome.Phase.{Phase}
use Rattle.rmm_model.specs.declared.outcome.Phase.TheVariants.{Empty, New}
use Rattle.rmm_model.specs.Space.{Space, empty_space}

pub record State : Type 0 where
  pub phase : Phase
  -- the realm's parameters, once a realm is created
  pub params : Option RealmParams
  -- the number of auxiliary granules of each REC
  pub num_aux : ℕ
  -- which RECs extend the measurement; without a rule none is made that is not runnable
  pub rule : Option RecRule
  -- granules and their kinds, by address
  pub owners : List (ℕ × Kind)
  pub space : Space
  -- the number of RECs made
  pub num_recs : ℕ
  -- the Realm Initial Measurement, once a realm is created
  pub rim : Option (List ℕ)

-- the state before the first command
abbrev pub empty_state : ℕ → Option RecRule → State
empty_state num_aux rule = record { phase = Empty; params = None; num_aux = num_aux; rule = rule; owners = []; space = empty_space 0 0; num_recs = 0; rim = None }

abbrev pub is_empty : Phase → Bool
is_empty Empty = true
is_empty _ = false

abbrev pub is_new : Phase → Bool
is_new New = true
is_new _ = false

-- the hash algorithm of the realm. Without a realm nothing is hashed
abbrev pub algo_of : Option RealmParams → Algo
algo_of (Some p) = p.algo
algo_of None = Sha256

-- the measurement so far; zero bytes where nothing was measured
abbrev pub measured_so_far : Option (List ℕ) → List ℕ
measured_so_far (Some rim) = rim
measured_so_far None = zeros 64

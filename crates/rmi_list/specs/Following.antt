-- What it means that a monitor follows a list of commands, for the law of this crate. This project's choice.
use Rattle.std.specs.Prelude.{◌≡◌, ℕ, true, false, List, Option, Some, option_map}
use Rattle.rim_desc.specs.Part.{Part, rim_of}
use Rattle.rim_desc.specs.declared.command.Command.{Command}
use Rattle.rim_desc.specs.declared.measurement.Algo.{Algo}
use Rattle.rim_desc.specs.declared.rule.RecRule.{RecRule}
use Rattle.rmm_model.specs.State.{empty_state}
use Rattle.rmm_model.specs.Owners.{repeats}
use Rattle.rmm_model.specs.Run.{accepted, run, shown, taken}

-- From its first command on, a monitor with this number of auxiliary granules and this rule refuses no command; it measures these
-- parts and no other; no granule is taken twice; the realm that it has then is by this algorithm, and its Realm Initial
-- Measurement is that of the parts.
pub record IsFollowed (algo : Algo) (num_aux : ℕ) (rule : Option RecRule) (commands : List Command) (parts : List Part) : Type 0 where
  pub accepted : accepted (empty_state num_aux rule) commands ≡ true
  pub shown : shown (empty_state num_aux rule) commands ≡ parts
  pub once : repeats (taken commands) ≡ false
  pub by_algo : option_map (λ p. p.algo) (run (empty_state num_aux rule) commands).params ≡ Some algo
  pub rim : (run (empty_state num_aux rule) commands).rim ≡ Some (rim_of algo parts)

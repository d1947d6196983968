-- A monitor that has carried out a list of commands, and commands that lead it on. This project's choice.
use Rattle.std.specs.Prelude.{◌≡◌, ℕ, ◌+◌, ◌%◌, ◌<◌, ◌≤◌, true, false, List, Option, Some, None}
use Rattle.rim_desc.specs.Part.{Part}
use Rattle.rim_desc.specs.declared.command.Command.{Command}
use Rattle.rim_desc.specs.declared.realm.RealmParams.{RealmParams}
use Rattle.rim_desc.specs.Rec.{RecData, rec_mpidr_of}
use Rattle.rim_desc.specs.declared.rule.RecRule.{RecRule}
use Rattle.rmm_model.specs.Checks.{has_bad_flags}
use Rattle.rmm_model.specs.Blocks.{granules}
use Rattle.rmm_model.specs.Space.{SameSpace, Space, are_some, empty_space}
use Rattle.rmm_model.specs.Start.{protected_end}
use Rattle.rmm_model.specs.State.{State, is_new}
use Rattle.rmm_model.specs.Owners.{kind_of}
use Rattle.rmm_model.specs.Run.{accepted, run, shown}
use Rattle.rtt_plan.specs.Planned.{Planned}
use Rattle.list_model.specs.Entries.{granule}
use Rattle.rim_desc.specs.declared.page.TheConstants.{PAGE_SIZE}
use Rattle.rim_desc.specs.declared.rec.TheConstants.{REC_LIMIT}

-- what does not change while a realm is built
pub record Build : Type 0 where
  pub params : RealmParams
  -- the number of auxiliary granules of each REC
  pub num_aux : ℕ
  -- which RECs extend the measurement
  pub rule : Option RecRule
  -- the first granule of the pool
  pub pool : ℕ

-- what was built so far
pub record Built : Type 0 where
  pub space : Space
  -- how many granules of the pool were taken
  pub taken : ℕ
  -- how many RECs were made
  pub num_recs : ℕ

-- a monitor with a new realm of which just this was built: its space is the same, and the rest of the pool is free
pub record IsBuilt (b : Build) (w : Built) (s : State) : Type 0 where
  pub new : is_new s.phase ≡ true
  pub params : s.params ≡ Some b.params
  pub num_aux : s.num_aux ≡ b.num_aux
  pub rule : s.rule ≡ b.rule
  pub num_recs : s.num_recs ≡ w.num_recs
  pub space : SameSpace s.space w.space
  pub some : are_some s.space.ram ≡ true
  pub some_built : are_some w.space.ram ≡ true
  pub pool : b.pool % PAGE_SIZE ≡ 0
  pub free : (g : ℕ) → granule b.pool w.taken ≤ g → kind_of s.owners g ≡ None

-- commands that are all taken, measure these parts, and lead to what is built then
pub record Leads (b : Build) (w : Built) (s : State) (commands : List Command) (parts : List Part) : Type 0 where
  pub accepted : accepted s commands ≡ true
  pub shown : shown s commands ≡ parts
  pub built : IsBuilt b w (run s commands)

-- ---- what is built by the realm, by a REC, and by what was planned

-- just after the realm was created: its start tables and the realm descriptor are taken
abbrev pub opened : RealmParams → Built
opened params = record {
  space = empty_space params.rtt_level_start (protected_end params.s2sz);
  taken = params.rtt_num_start + 1;
  num_recs = 0;
}

abbrev pub with_rec : Build → Built → Built
with_rec b w = record w { taken = w.taken + (b.num_aux + 1); num_recs = w.num_recs + 1 }

-- a REC that can be created next: it has flags that the rule allows and the next number, and names the granules after its own
pub record IsNextRec (b : Build) (w : Built) (r : RecData) : Type 0 where
  pub flags : has_bad_flags b.rule r.flags ≡ false
  pub number : r.mpidr ≡ rec_mpidr_of w.num_recs
  pub few : w.num_recs < REC_LIMIT
  pub aux : r.aux ≡ granules b.num_aux (granule b.pool (w.taken + 1))

-- what was planned is built, with the next granule of the pool and the number of RECs
abbrev pub planned : Planned → ℕ → ℕ → Built
planned p taken num_recs = record { space = p.space; taken = taken; num_recs = num_recs }

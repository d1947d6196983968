-- The realm that a launch asks for. DEN0137, RmiRealmParams; that the start tables are at the pool's first granules is
-- this project's choice.
use Rattle.std.specs.Prelude.{◌+◌, if◌then◌else◌}
use Rattle.rim_desc.specs.declared.realm.RealmParams.{RealmParams}
use Rattle.rmm_model.specs.Start.{start_count, start_level}
use Rattle.rim_launch.specs.declared.config.Config.{Config}

-- flag bit 1 is SVE and bit 2 PMU. DEN0137, RmiRealmFlags
abbrev pub realm_params : Config → RealmParams
realm_params c = record {
  flags = (if c.sve then 2 else 0) + (if c.pmu then 4 else 0);
  s2sz = c.s2sz;
  numbers = c.numbers;
  rtt_level_start = start_level c.s2sz;
  rtt_num_start = start_count c.s2sz;
  algo = c.algo;
  rpv = c.rpv;
  rtt_base = c.pool_base;
}

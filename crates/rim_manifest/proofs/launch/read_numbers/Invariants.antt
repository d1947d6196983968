use Rattle.std.proofs.Common.{◌≡◌, length, map, take}
use Rattle.toml.specs.View.{view}
use Rattle.rim_desc.specs.Numbers.{rmm_1_0}
use Rattle.rim_manifest.specs.Launches.{number_of}
use Rattle.rim_manifest.proofs.launch.read_numbers.Given as goal

-- the numbers of the rows before `at` are read
abbrev pub invariant-loop-at : goal.invariant-loop-at
invariant-loop-at l = record {
  size : length l.numbers ≡ length rmm_1_0;
  read : take l.at l.numbers ≡ take l.at (map (number_of (view l.table)) rmm_1_0);
}

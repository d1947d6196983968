use Rattle.rmm_model.proofs.OneMoreInSpace.{are_some-insert, is_ram-insert, overlaps-insert}
use Rattle.rmm_model.proofs.laws.ram_after_a_run.Goals as goal

pub returns-clause-addresses : goal.returns-clause-addresses
returns-clause-addresses c s = is_ram-insert s.ram

pub returns-clause-ranges : goal.returns-clause-ranges
returns-clause-ranges c s = overlaps-insert s.ram

pub returns-clause-some : goal.returns-clause-some
returns-clause-some c s = are_some-insert s.ram

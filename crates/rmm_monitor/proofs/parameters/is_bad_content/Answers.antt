use Rattle.std.proofs.Common.{refl}
use Rattle.std.proofs.lemmas.List.{take_rest}
use Rattle.rmm_monitor.proofs.parameters.is_bad_content.Goals as goal

pub returns-in-Some : goal.returns-in-Some
returns-in-Some c = rw (c.in-Sha256.is, c.in-Some.is, rw (take_rest c.in-Some.content.bytes 32) at c.are_zero.ensures) refl

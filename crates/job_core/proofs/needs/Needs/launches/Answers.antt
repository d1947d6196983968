use Rattle.std.proofs.Common.{sym}
use Rattle.std.proofs.lemmas.List.FromFn.{length-map-range_with_len}
use Rattle.job_core.proofs.needs.Needs.launches.Goals as goal

pub returns-in-Reaches : goal.returns-in-Reaches
returns-in-Reaches c = rw c.in-Reaches.is (sym (length-map-range_with_len _ 0 _))

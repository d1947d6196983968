use Rattle.std.proofs.Common.{rules}
use Rattle.rmm_model.proofs.start.is_width.Goals as goal

pub returns-then-s2sz-ge-LEAST_WIDTH : goal.returns-then-s2sz-ge-LEAST_WIDTH
returns-then-s2sz-ge-LEAST_WIDTH c = search rules

use Rattle.std.specs.Prelude.{vec_capacity}
use Rattle.job_core.proofs.LineOfReady.{line_join}
use Rattle.job_core.proofs.line.wait_less.Goals as goal

pub returns-then-rest-eq0-clause-line : goal.returns-then-rest-eq0-clause-line
returns-then-rest-eq0-clause-line c =
    rw (c.push_reserved.ensures.items, c.push_reserved.ensures.capacity, c.if-rest-eq0.true) (line_join c.args.left.now c.args.ready.now.items (vec_capacity c.args.ready.now) c.args.launch c.requires.some c.requires.line)

use Rattle.std.proofs.Common.{rules}
use Rattle.rim_cli.proofs.program.show_usage.Goals as goal

pub returns-then-use_stderr-clause-known : goal.returns-then-use_stderr-clause-known
returns-then-use_stderr-clause-known g c = search rules

pub returns-then-use_stderr-clause-helps : goal.returns-then-use_stderr-clause-helps
returns-then-use_stderr-clause-helps g c = search rules

pub returns-clause-mistaken : goal.returns-clause-mistaken
returns-clause-mistaken g c = search rules

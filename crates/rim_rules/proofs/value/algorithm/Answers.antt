use Rattle.std.proofs.Common.{rules}
use Rattle.toml.proofs.Views.{view-String}
use Rattle.rim_rules.proofs.value.algorithm.Goals as goal

pub returns-in-Some-String : goal.returns-in-Some-String
returns-in-Some-String c = rw (
  c.in-Some-String.ensures,
  c.in-Some-String.field-0-is,
  view-String,
  ← c.in-Some-String.text-is,
  ← c.as_str.ensures.value,
  ← c.word.ensures,
  ← c.if-eq.ensures,
)

pub returns-in_default-3 : goal.returns-in_default-3
returns-in_default-3 c = search rules

use Rattle.std.proofs.Common.{◌≡◌, map, take, string_bytes}
use Rattle.toml.specs.Data.{get}
use Rattle.toml.specs.View.{view}
use Rattle.rim_rules.specs.Values.{text_in}
use Rattle.rim_manifest.proofs.texts.read_texts.Given as goal

abbrev pub invariant-loop-table : goal.invariant-loop-table
invariant-loop-table l = map string_bytes l.texts.items ≡ map (λ t. text_in (get l.key (view t))) (take l.table-index l.tables)

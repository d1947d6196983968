use Rattle.std.proofs.Common.{◌∙◌, sym, not, map, rules, tests}
use Rattle.std.specs.Prelude.{string_bytes}
use Rattle.std.proofs.lemmas.Iterator.Consumers.{YieldsList-from_rest}
use Rattle.std.proofs.lemmas.Iterator.Search.{any_from_yields_List}
use Rattle.rim_manifest.specs.Checks.{is_known}
use Rattle.rim_rules.specs.Rules.{rule_of}
use Rattle.rim_rules.proofs.ListsOfValues.{any_key}
use Rattle.rim_manifest.proofs.check.has_unknown_key.Goals as goal

pub returns : goal.returns
returns c =
    any_from_yields_List (λ k. not (is_known (map rule_of c.args.rules.now) (string_bytes k))) _ _ _ c.any.ensures.ran
    (YieldsList-from_rest _ c.keys.ensures.rest) (λ x b q k. search (rules, tests))
    ∙ sym (any_key (λ k. not (is_known (map rule_of c.args.rules.now) k)) c.args.table.now.entries)

use Rattle.std.proofs.Common.{sym, ◌∙◌, rules, tests}
use Rattle.std.specs.Str.{bytes_eq}
use Rattle.std.proofs.lemmas.Iterator.{YieldsList-from_slice}
use Rattle.std.proofs.lemmas.Iterator.Search.{any_from_yields_List}
use Rattle.rim_rules.specs.Rules.{rule_of}
use Rattle.rim_rules.proofs.ListsOfValues.{list_any_map}
use Rattle.rim_manifest.proofs.check.is_known.Goals as goal

pub returns : goal.returns
returns c =
    any_from_yields_List (λ r. bytes_eq r.0.now c.args.key.now) _ _ _ c.any.ensures.ran (YieldsList-from_slice c.args.rules.now cc)
    (λ x b q k. search (rules, tests))
    ∙ sym (list_any_map _ rule_of c.args.rules.now)

use Rattle.std.proofs.Common.{◌==◌, ℕ, rules, tests}
use Rattle.std.specs.Prelude.{not}
use Rattle.std.proofs.lemmas.Iterator.{YieldsList-from_slice}
use Rattle.std.proofs.lemmas.Iterator.Search.{all_from_yields_List}
use Rattle.rim_launch.proofs.item.has_no_zero.Goals as goal

pub returns : goal.returns
returns c = all_from_yields_List (λ (b : ℕ). not (b == 0)) _ _ _ c.all.ensures.ran (YieldsList-from_slice c.args.bytes.now cc) (λ x b q k. search (rules, tests))

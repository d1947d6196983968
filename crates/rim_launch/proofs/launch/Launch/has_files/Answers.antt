use Rattle.std.proofs.Common.{rules, tests}
use Rattle.std.proofs.lemmas.Iterator.{YieldsList-from_slice}
use Rattle.std.proofs.lemmas.Iterator.Search.{all_from_yields_List}
use Rattle.rim_launch.specs.declared.item.Item.{Item}
use Rattle.rim_launch.specs.Kinds.{file_of, is_below}
use Rattle.rim_launch.proofs.launch.Launch.has_files.Goals as goal

pub returns : goal.returns
returns c = all_from_yields_List (λ (i : Item). is_below c.args.count (file_of i.kind)) _ _ _ c.all.ensures.ran (YieldsList-from_slice c.args.self.now.items cc) (λ x b q k. search (rules, tests))

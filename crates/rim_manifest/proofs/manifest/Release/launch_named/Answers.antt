use Rattle.std.proofs.Common.{rules, tests}
use Rattle.std.proofs.lemmas.Iterator.{YieldsList-from_slice}
use Rattle.std.proofs.lemmas.Iterator.Search.{position_from_yields_List}
use Rattle.rim_manifest.specs.Manifest.{name_in}
use Rattle.rim_manifest.proofs.manifest.Release.launch_named.Goals as goal

pub returns : goal.returns
returns c =
    position_from_yields_List (name_in c.args.name.now) _ _ _ c.position.ensures.ran (YieldsList-from_slice c.args.self.now.launches cc)
    (λ x b q k. search (rules, tests))

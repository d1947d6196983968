use Rattle.std.proofs.Common.{◌∙◌}
use Rattle.std.proofs.lemmas.Result.{IfOk-weaker}
use Rattle.ipa_layout.specs.Files.{bytes_of_files}
use Rattle.rim_map.specs.inside.Spaces.{seen_space}
use Rattle.rim_map.proofs.RefusedMapAsJson.{shows-placed}
use Rattle.rim_map.proofs.refused.shown_space.Goals as goal

pub returns-in_ok-rows-in-List : goal.returns-in_ok-rows-in-List
returns-in_ok-rows-in-List c =
    IfOk-weaker c.placed_space.result _ _
    (λ space is_space. rw c.in-List.is (shows-placed c.args.release.now.paths c.args.refused.now.named.now (bytes_of_files c.args.refused.now.files.now)
    _ c.in-List.reason c.in-List.granules c.deref.result.now (seen_space space)
    (c.deref.ensures.value ∙ (rw c.launch.ensures at c.in_ok-rows-in-List.ensures)) is_space))
    c.placed_space.ensures

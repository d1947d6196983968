use Rattle.std.proofs.Common.{[], ℕ, List, IfOk, refl, subst, sym}
use Rattle.ipa_layout.specs.Files.{bytes_of_files}
use Rattle.rim_manifest.specs.Launches.{NamedData}
use Rattle.rim_check.specs.Warned.{ShowsWarnings}
use Rattle.rim_check.specs.inside.Found.{AreWarned, numbers_of}
use Rattle.rim_check.proofs.LaunchLines.{all-checked, all-found, checked-at, numbered-at}
use Rattle.rim_check.proofs.launches.check_launches.Goals as goal

pub loop-launch-init : goal.loop-launch-init
loop-launch-init c = record {
  shows = record { said = []; are = refl; lines = c.new-found.ensures.refusals };
  refused = c.new-found.ensures.refused;
  pages = c.new-found.ensures.pages;
  warned = subst (AreWarned (bytes_of_files c.args.loaded.files.now) c.args.loaded.release.now.launches) (sym c.new-found.ensures.warnings) tt;
}

pub loop-launch-preserved : goal.loop-launch-preserved
loop-launch-preserved c =
    let l = c.launch-item.result in
    let there = numbered-at c.args.loaded.release.now _ c.loop-launch.launch-index l
    c.all_launches-launches.ensures.kept c.all_launches-launches.ensures.value c.loop-launch-test.true c.launch-item.is in
    checked-at _ _ _ c.loop-launch.launch-index l _ _ c.loop-launch-test.true c.launch-item.is
    there c.in_ok-look_at.ensures c.loop-launch.invariant

pub returns : goal.returns
returns c =
    let own = c.all_launches-launches.ensures.value in
    let are = all-checked _ _ _ _ _ own c.loop-launch-test.false c.loop-launch.invariant in
    let warnings = subst (λ (all : List NamedData). IfOk c.finish.result (λ check. (fs : List (List ℕ)) → AreWarned fs all
    (numbers_of c.loop-launch.found.warnings) → ShowsWarnings fs all check.warnings.items))
    own c.finish.ensures.warnings in
    all-found (bytes_of_files c.args.loaded.files.now) c.args.loaded.release.now.launches c.loop-launch.found c.finish.result
    c.finish.ensures.fault c.finish.ensures.faults warnings are

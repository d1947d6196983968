use Rattle.std.proofs.Common.{ℕ, List, inl, inr, map}
use Rattle.std.proofs.lemmas.Result.{IfErr-weaker, IfOk-weaker}
use Rattle.rim_cli.specs.Done.{IsLaunchAnswer, IsLaunchFault, OfLaunch, RefusesLaunch}
use Rattle.rim_files.specs.Files.{Known}
use Rattle.rim_cli.proofs.ReleaseOfManifest.{found_launch, of_release}
use Rattle.rim_cli.proofs.answer.launch_answer.Goals as goal

pub returns-clause-answered : goal.returns-clause-answered
returns-clause-answered g c =
    let held : List ℕ → Known = g.O.Opener.held c.args.opener.now in
    let found = c.in_ok-found.found in
    let files : List (List ℕ) = map (λ file. file.items) found.files.items in
    IfOk-weaker c.answer_of_launch.result _ _
    (λ a answers. of_release (held c.args.path.now) found.release
    (λ r. OfLaunch held r c.args.launch.now (λ l fs. IsLaunchAnswer c.args.ask r.paths l fs a.text.items a.status)) c.in_ok-found.ensures.release
    (found_launch held c.args.launch.now found.release found.number c.loaded.result.launch.now files
    (λ l fs. IsLaunchAnswer c.args.ask found.release.paths l fs a.text.items a.status)
    c.in_ok-found.ensures.number c.loaded.ensures.launch c.in_ok-found.ensures.files (rw c.loaded.ensures.files at answers)))
    c.answer_of_launch.ensures.answered

pub returns-clause-refused : goal.returns-clause-refused
returns-clause-refused g c =
    let held : List ℕ → Known = g.O.Opener.held c.args.opener.now in
    let found = c.in_ok-found.found in
    let files : List (List ℕ) = map (λ file. file.items) found.files.items in
    IfErr-weaker c.answer_of_launch.result _ _
    (λ e why. elim why [
      | inl memory ↦ rw memory (inl tt)
      | inr fault ↦ inr (of_release (held c.args.path.now) found.release (λ r. RefusesLaunch held c.args.launch.now c.args.ask r e)
          c.in_ok-found.ensures.release
          (inr (found_launch held c.args.launch.now found.release found.number c.loaded.result.launch.now files (λ l fs. IsLaunchFault c.args.ask l fs e)
          c.in_ok-found.ensures.number c.loaded.ensures.launch c.in_ok-found.ensures.files (rw c.loaded.ensures.files at fault))))
    ])
    c.answer_of_launch.ensures.refused

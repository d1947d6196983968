use Rattle.std.proofs.Common.{ℕ, List, arith, map}
use Rattle.std.proofs.lemmas.List.{length-map}
use Rattle.rim_files.specs.Files.{Known}
use Rattle.rim_cli.proofs.CheckedLaunches.{launches-checked}
use Rattle.rim_cli.proofs.FaultsOfFiles.{all_files, read_count}
use Rattle.rim_cli.proofs.checking.check_release.Goals as goal

pub new-requires : goal.new-requires
new-requires g c =
    let held : List ℕ → Known = g.O.Opener.held c.args.opener.now in
    let files : List (List ℕ) = map (λ file. file.items) c.in_ok-found.found.files.items in
    let read = all_files held c.args.release.now.paths files c.in_ok-found.found.unread c.in_ok-found.ensures.found c.if-not-is_empty.ensures in
    let count = read_count held c.args.release.now.paths files read in
    omega (arith, c.in_ok-found.found.files.ok, count, length-map c.in_ok-found.found.files.items (λ file. file.items))

pub returns-in-Ok-clause-found : goal.returns-in-Ok-clause-found
returns-in-Ok-clause-found g c =
    let held : List ℕ → Known = g.O.Opener.held c.args.opener.now in
    let files : List (List ℕ) = map (λ file. file.items) c.in_ok-found.found.files.items in
    let read = all_files held c.args.release.now.paths files c.in_ok-found.found.unread c.in_ok-found.ensures.found c.if-not-is_empty.ensures in
    launches-checked held c.args.quiet c.args.release.now files c.in-Ok.check c.release_check.result
    read (rw (c.new.ensures.release, c.new.ensures.files) at c.in-Ok.ensures) c.release_check.ensures.faults
    c.release_check.ensures.warnings c.release_check.ensures.status

use Rattle.ipa_layout.specs.Files.{bytes_of_files}
use Rattle.rim_cli.proofs.MapsOfLaunches.{refused-map}
use Rattle.rim_cli.proofs.mapping.map_of.Goals as goal

pub returns-in_ok-text-in-Err-clause-map : goal.returns-in_ok-text-in-Err-clause-map
returns-in_ok-text-in-Err-clause-map c =
    let l = c.args.loaded.launch.now in
    let files = bytes_of_files c.args.loaded.files.now in
    let why = c.in-Err.refused.reason in
    let refused = rw c.in-Err.is at c.in_ok-listed.ensures.refused in
    let own = rw c.in-Err.is at c.in_ok-listed.ensures.own_refusal in
    rw (c.new-in-Err.ensures.text, c.new-in-Err.ensures.status)
    (refused-map c.args.format c.args.release.now.paths l files why _ refused (rw (own.0, own.1) at c.in_ok-text-in-Err.ensures))

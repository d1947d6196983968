use Rattle.ipa_layout.specs.Files.{bytes_of_files}
use Rattle.rim_accepted.proofs.FirstReasons.{found-accepted, found-layout, found-list}
use Rattle.rim_accepted.proofs.accepted.accepting.accept_with_list.Goals as goal

pub returns-in-Err-clause-refused : goal.returns-in-Err-clause-refused
returns-in-Err-clause-refused c =
    let refused = rw (c.in-Err.is, c.launch-launch.ensures) at c.in_ok-placed.ensures in
    found-layout c.args.loaded.launch.now.launch (bytes_of_files c.args.loaded.files.now) c.in-Err.reason refused

pub returns-in-Ok-2-clause-accepted : goal.returns-in-Ok-2-clause-accepted
returns-in-Ok-2-clause-accepted c =
    let placed = rw (c.in-Ok.is, c.launch-launch.ensures) at c.in_ok-placed.ensures in
    let listed = rw (c.in-Ok-2.is, c.launch-launch.ensures) at c.in_ok-plan.ensures.list in
    found-accepted c.args.loaded.launch.now.launch (bytes_of_files c.args.loaded.files.now) _ _ placed listed

pub returns-in_ok-granules-in-Err-2-clause-refused : goal.returns-in_ok-granules-in-Err-2-clause-refused
returns-in_ok-granules-in-Err-2-clause-refused c =
    let placed = rw (c.in-Ok.is, c.launch-launch.ensures) at c.in_ok-placed.ensures in
    let why = rw (c.in-Err-2.is, c.launch-launch.ensures) at c.in_ok-plan.ensures.reason in
    let counted = rw (c.fault.ensures, c.launch-launch.ensures) at c.in_ok-granules-in-Err-2.ensures in
    found-list c.args.loaded.launch.now.launch (bytes_of_files c.args.loaded.files.now) _ c.in-Err-2.reason
    c.in_ok-granules-in-Err-2.granules placed why counted

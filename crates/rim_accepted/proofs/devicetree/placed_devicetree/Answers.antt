use Rattle.std.proofs.Common.{◌≡◌, ℕ, List, Some, None, inr, refl, sym}
use Rattle.ipa_layout.specs.Files.{bytes_of_files}
use Rattle.rim_accepted.specs.Devicetree.{devicetree_in, devicetree_of}
use Rattle.rim_accepted.proofs.FirstReasons.{refused-accepted}
use Rattle.rim_accepted.proofs.devicetree.placed_devicetree.Goals as goal

pub returns-in-Err : goal.returns-in-Err
unfolding devicetree_of
returns-in-Err c =
    let launch = c.args.loaded.launch.now.launch in
    let files = bytes_of_files c.args.loaded.files.now in
    let refused = refused-accepted launch files c.in-Err.refused.reason (rw c.in-Err.is at c.in_ok-accepted.ensures.reason) in
    inr (rw (c.fault.ensures, refused) refl)

pub returns-in-Some : goal.returns-in-Some
unfolding devicetree_of
returns-in-Some c =
    let files : List (List ℕ) = bytes_of_files c.args.loaded.files.now in
    let accepted = rw c.in-Ok.is at c.in_ok-accepted.ensures.reason in
    let own = rw c.in-Ok.is at c.in_ok-accepted.ensures.own in
    let found : devicetree_in c.args.loaded.launch.now.launch files c.in-Ok.accepted.placed ≡ Some c.in-Some.bytes.now
    = sym (rw (own.0, own.1) at c.in-Some.ensures) in
    rw (accepted, found, c.in_ok-copied-in-Some.ensures) refl

pub returns : goal.returns
unfolding devicetree_of
returns c =
    let files : List (List ℕ) = bytes_of_files c.args.loaded.files.now in
    let accepted = rw c.in-Ok.is at c.in_ok-accepted.ensures.reason in
    let own = rw c.in-Ok.is at c.in_ok-accepted.ensures.own in
    let found : devicetree_in c.args.loaded.launch.now.launch files c.in-Ok.accepted.placed ≡ None = sym (rw (own.0, own.1) at c.in-None.ensures) in
    rw (accepted, found) refl

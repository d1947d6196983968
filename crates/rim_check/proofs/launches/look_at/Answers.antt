use Rattle.std.proofs.Common.{refl, subst}
use Rattle.std.proofs.lemmas.Result.{on_ok_weaker}
use Rattle.ipa_layout.specs.Files.{bytes_of_files}
use Rattle.rim_manifest.specs.Launches.{NamedData}
use Rattle.rim_check.specs.Explained.{refusal_said}
use Rattle.shown_text.specs.Lines.{AddsLine}
use Rattle.rim_check.proofs.FoundOfLaunches.{accepted-all, refused-found}
use Rattle.rim_check.proofs.launches.look_at.Goals as goal

pub returns-in-Ok : goal.returns-in-Ok
returns-in-Ok c =
    let reasoned = rw c.in-Ok.is at c.in_ok-accepted.ensures.reason in
    let own = rw c.in-Ok.is at c.in_ok-accepted.ensures.own in
    accepted-all (bytes_of_files c.args.loaded.files.now) c.args.loaded.launch.now c.in-Ok.accepted c.args.found.now c.add_accepted.new.found
    c.add_accepted.result reasoned own.0 c.add_accepted.ensures.refusals c.add_accepted.ensures.pages c.add_accepted.ensures.warnings

pub returns-in-Err : goal.returns-in-Err
returns-in-Err c =
    let reasoned = rw c.in-Err.is at c.in_ok-accepted.ensures.reason in
    let own = rw c.in-Err.is at c.in_ok-accepted.ensures.own_refusal in
    let why = c.in-Err.refused.reason in
    let adds_line = λ (l : NamedData). AddsLine (refusal_said l why) c.args.found.now.refusals.items c.push_refusal.new.remarks.items in
    on_ok_weaker _
    (λ (adds : AddsLine (refusal_said c.in-Err.refused.named.now why) c.args.found.now.refusals.items c.push_refusal.new.remarks.items).
    refused-found (bytes_of_files c.args.loaded.files.now) c.args.loaded.launch.now why c.args.found.now _ reasoned (subst adds_line own.0 adds) refl refl refl)
    c.push_refusal.ensures

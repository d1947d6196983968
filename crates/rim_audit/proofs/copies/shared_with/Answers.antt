use Rattle.std.proofs.Common.{◌≡◌, ◌≤◌, ℕ, List, arith, length}
use Rattle.std.proofs.lemmas.List.{length-map}
use Rattle.std.specs.Prelude.{Some}
use Rattle.ipa_layout.specs.Files.{bytes_of_files}
use Rattle.list_model.specs.Entries.{command_of, commands_of}
use Rattle.rmi_list.specs.Measured.{page_contents}
use Rattle.rim_audit.specs.inside.Commands.{commands_in, state_after}
use Rattle.rim_audit.specs.inside.Copies.{AreMarked, state_of}
use Rattle.rim_audit.proofs.CopiesOfMonitors.{agree, led-alike, serve-within}
use Rattle.rim_audit.proofs.copies.shared_with.Goals as goal

pub returns : goal.returns
returns c =
    let own = c.args.commands.now in
    let files : List (List ℕ) = bytes_of_files own.accepted.files.now in
    let of_launch = c.args.of_launch.now in
    let kept = c.requires in
    let launch = of_launch.launch.now in
    let marked : AreMarked kept.placed.items own.accepted.placed.items c.marked-marks.result =
    rw (c.deref.ensures.value, kept.items, c.items.ensures, c.placed.ensures) at c.marked-marks.ensures in
    let aux : launch.config.num_aux ≡ own.accepted.named.now.launch.config.num_aux
    = rw (c.config.ensures.value, c.config-2.ensures.value, c.launch.ensures) at (c.has_same_settings.ensures.aux c.if-not-has_same_settings.false) in
    let rule : launch.config.rec_rule ≡ own.accepted.named.now.launch.config.rec_rule
    = rw (c.config.ensures.value, c.config-2.ensures.value, c.launch.ensures) at (c.has_same_settings.ensures.rule c.if-not-has_same_settings.false) in
    let algo : launch.config.algo ≡ own.accepted.named.now.launch.config.algo
    = rw (c.config.ensures.value, c.config-2.ensures.value, c.launch.ensures) at (c.has_same_settings.ensures.algo c.if-not-has_same_settings.false) in
    let same = c.common_commands.ensures.same (page_contents launch files kept.placed) (page_contents own.accepted.named.now.launch files own.accepted.placed)
    (agree launch own.accepted.named.now.launch files kept.placed own.accepted.placed c.marked-marks.result algo marked) in
    let led : (count : ℕ) → count ≤ c.common_commands.result → state_of launch files kept.placed of_launch.plan count ≡ state_after own count
    = λ count le. led-alike launch.config.num_aux own.accepted.named.now.launch.config.num_aux launch.config.rec_rule
    own.accepted.named.now.launch.config.rec_rule
    count c.common_commands.result
    (commands_of (page_contents launch files kept.placed) of_launch.plan) (commands_in own) aux rule le same in
    let within : c.common_commands.result ≤ length (commands_in own) =
    omega (arith, length-map own.plan (command_of (page_contents own.accepted.named.now.launch files own.accepted.placed)), c.common_commands.ensures.others) in
    serve-within own files launch kept.placed of_launch.plan of_launch.copies.items (Some c.common_commands.result) within led kept.copies

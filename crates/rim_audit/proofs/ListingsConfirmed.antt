-- A monitor takes the commands of a listing and then holds its measurement, so its replay says yes.
use Rattle.std.proofs.Common.{◌≡◌, ◌∙◌, ap, sym}
use Rattle.std.specs.Prelude.{Ok, Some, [], unwrap_or}
use Rattle.std.specs.List.{All}
use Rattle.rmm_model.specs.Run.{run}
use Rattle.rmm_model.specs.State.{empty_state}
use Rattle.rmi_line.specs.Typed.{Are64Bytes, IsTyped}
use Rattle.rim_replay.specs.Replay.{ReplayAnswer}
use Rattle.rim_replay.proofs.TrueListings.{true-listing}
use Rattle.rim_accepted.specs.Accepted.{rim_after}
use Rattle.rim_audit.specs.Listing.{listing_with}
use Rattle.rim_audit.specs.declared.commands.LaunchCommands.{LaunchCommands}
use Rattle.rim_audit.specs.inside.Commands.{commands_in}
use Rattle.rim_audit.proofs.MonitorFollows.{followed}

pub says-yes : (l : LaunchCommands) → All IsTyped (commands_in l) → Are64Bytes (rim_after l.accepted.named.now.launch (commands_in l))
    → ReplayAnswer (listing_with l.accepted.named.now.launch (commands_in l)) (Ok tt)
says-yes l typed fit =
    let config = l.accepted.named.now.launch.config in
    let own = followed l in
    let held : (run (empty_state config.num_aux config.rec_rule) (commands_in l)).rim ≡ Some (rim_after l.accepted.named.now.launch (commands_in l)) =
    own.rim ∙ ap Some (sym (ap (λ o. unwrap_or o []) own.rim)) in
    true-listing config.num_aux config.rec_rule (commands_in l) config.algo
    (rim_after l.accepted.named.now.launch (commands_in l)) config.aux typed fit own.accepted own.by_algo held

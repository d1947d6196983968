use Rattle.std.proofs.Common.{◌≡◌, Ok, arith}
use Rattle.job_core.specs.Step.{core_step}
use Rattle.job_board.proofs.HistoryGoesOn.{history_room}
use Rattle.job_board.proofs.state.record.Goals as goal

pub push_reserved-requires : goal.push_reserved-requires
push_reserved-requires g =
    let step : core_step g.args.core.now g.args.event ≡ Ok g.step.new.self = g.in_ok-step.ensures.step in
    let room = history_room g.args.core.now g.step.new.self g.args.history.now.items g.args.event g.requires.history step in
    omega (arith, room, g.requires.room)

use Rattle.job_workers.proofs.PutsTakenOrNot.{puts}
use Rattle.job_workers.proofs.board.Board.put_launch.Goals as goal

pub returns-clause-found : goal.returns-clause-found
returns-clause-found g c =
    let put = c.put_launch-answer in
    (c.deref_mut.result.now, put.new.self, put.ensures.board.0, put.ensures.board.1, puts _ _ _ _ _ put.ensures.can put.ensures.event put.ensures.refused)

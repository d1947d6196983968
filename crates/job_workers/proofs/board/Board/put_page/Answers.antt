use Rattle.job_workers.proofs.PutsTakenOrNot.{puts}
use Rattle.job_workers.proofs.board.Board.put_page.Goals as goal

pub returns-then-is_ok-clause-found : goal.returns-then-is_ok-clause-found
returns-then-is_ok-clause-found g c =
    let put = c.put_page-answer in
    (c.deref_mut.result.now, put.new.self, put.ensures.board.0, put.ensures.board.1, put.ensures.fresh, puts _ _ _ _ _ put.ensures.can put.ensures.event put.ensures.refused)

use Rattle.std.proofs.Common.{◌≡◌, false, true, sym, ◌∙◌, subst}
use Rattle.std.proofs.lemmas.Bool.{true≢false}
use Rattle.job_board.specs.Board.{BoardView}
use Rattle.job_core.specs.Jobs.{NoneOpen, SomeHeld}
use Rattle.job_core.proofs.WaitsForHeld.{some_held}
use Rattle.job_board.proofs.state.BoardState.take_or_wait.Goals.{in-Later, in_default}
use Rattle.job_board.proofs.state.BoardState.take_or_wait.Goals as goal

pub returns-then-is_some_held-clause-held : goal.returns-then-is_some_held-clause-held
returns-then-is_some_held-clause-held g c =
    elim c.match-matches.branch [
      | in-Later w ↦ (λ later.
          subst (λ (b : BoardView). SomeHeld b.core) (c.self.view_is ∙ c.preferred_work-work.ensures.same w.in-Later.is)
          (c.is_some_held.ensures c.if-is_some_held.true))
      | in_default w ↦ (λ later. let yes : true ≡ false = sym c.if-not-matches.false ∙ w.matches-is in absurd (true≢false yes))
    ]

pub returns-clause-held : goal.returns-clause-held
returns-clause-held g c =
    let said = c.preferred_work-work.ensures in
    elim c.match-matches.branch [
      | in-Later w ↦ (λ later.
          let is = w.in-Later.is in
          let none = (rw later at c.work_left.ensures.gives).5 in
          some_held c.args.self.now.core said.board.0.core (said.pages is) (said.«open» is) (subst (λ (b : BoardView). NoneOpen b.core) (said.same is) none))
      | in_default w ↦ (λ later. let yes : true ≡ false = sym c.if-not-matches.false ∙ w.matches-is in absurd (true≢false yes))
    ]

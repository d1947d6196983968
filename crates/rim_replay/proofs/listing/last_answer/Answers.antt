use Rattle.std.proofs.Common.{◌≡◌, ◌+◌, ◌∙◌, Some, false, true, length, ap, sym, subst}
use Rattle.std.specs.Prelude.{◌==◌}
use Rattle.rmi_line.specs.Spelled.{ReadsLast}
use Rattle.rim_replay.proofs.PiecesOfTexts.{something-follows}
use Rattle.rim_replay.proofs.listing.last_answer.Goals as goal

pub returns-then-not-is_empty : goal.returns-then-not-is_empty
returns-then-not-is_empty c =
    let last = Some (c.in-Some.algo, c.in-Some.rim) in
    let reads : ReadsLast c.args.line.now last = subst (ReadsLast c.args.line.now) c.in-Some.is c.read_last.ensures in (
      last,
      reads,
      rw (sym (c.is_held.ensures) ∙ c.if-not-is_held.false)
          (sym (something-follows (c.args.number + 1) c.args.after.now
          (λ none. let no : false ≡ true = (sym c.if-not-is_empty.true ∙ c.is_empty.ensures) ∙ ap (λ t. length t == 0) none in cc))),
    )

use Rattle.std.proofs.Common.{inl, inr, Err, Some, None, refl, subst}
use Rattle.rim_replay.specs.Replay.{Replays}
use Rattle.rim_replay.specs.declared.fault.ReplayFault.TheVariants as fault
use Rattle.rim_replay.proofs.LineByLine.{first-line, no-first-line}
use Rattle.rim_replay.proofs.PiecesOfTexts.{pieces}
use Rattle.rim_replay.proofs.listing.replay.Goals as goal

pub returns-in_default : goal.returns-in_default
returns-in_default c = inr (no-first-line c.args.text.now c.in_default.ensures)

pub returns-in_default-read_first : goal.returns-in_default-read_first
returns-in_default-read_first c =
    inr (first-line c.args.text.now c.in-Some.line.now c.in-Some.rest.now (Err (fault.Line 1)) None c.in-Some.ensures.0 c.in-Some.ensures.1 c.in_default-read_first.ensures refl)

pub returns : goal.returns
returns c = elim c.replay_commands.ensures [
  | inl memory ↦ inl memory
  | inr comes ↦ inr (first-line c.args.text.now c.in-Some.line.now c.in-Some.rest.now c.replay_commands.result (Some (c.in-Some-read_first.num_aux, c.in-Some-read_first.rule))
      c.in-Some.ensures.0 c.in-Some.ensures.1 c.in-Some-read_first.ensures
      (subst (λ s. Replays 2 s (pieces c.in-Some.rest.now) c.replay_commands.result) c.new.ensures comes))
]

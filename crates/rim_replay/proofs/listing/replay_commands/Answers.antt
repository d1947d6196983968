use Rattle.std.proofs.Common.{inl, inr, ◌≡◌, ◌⊎◌, ◌∙◌, ◌+◌, ℕ, ◌∷◌, length, Err, Some, None, length-append, ap, arith, sym, subst}
use Rattle.std.specs.Prelude.{IsOk, Result}
use Rattle.rmm_model.specs.State.{State}
use Rattle.rmm_model.specs.Step.{step}
use Rattle.rmm_model.specs.declared.outcome.Refused.{Refused}
use Rattle.rmm_model.specs.declared.outcome.Refused.TheVariants as refused
use Rattle.rim_replay.specs.Replay.{Replays, Takes}
use Rattle.rim_replay.specs.declared.fault.ReplayFault.{ReplayFault}
use Rattle.rim_replay.specs.declared.fault.ReplayFault.TheVariants as fault
use Rattle.rim_replay.proofs.LineByLine.{at-line, no-line}
use Rattle.rim_replay.proofs.PiecesOfTexts.{pieces}
use Rattle.rim_replay.proofs.listing.replay_commands.Goals as goal

pub returns-in_default : goal.returns-in_default
returns-in_default c =
    inr (c.loop-number.invariant.comes (Err (fault.Line c.loop-number.number)) (no-line c.loop-number.number c.loop-number.monitor c.loop-number.rest.now c.in_default.ensures))

pub returns-in_default-read_line : goal.returns-in_default-read_line
returns-in_default-read_line c =
    inr (c.loop-number.invariant.comes c.last_answer.result
    (at-line c.loop-number.number c.loop-number.monitor c.loop-number.rest.now c.in-Some.line.now c.in-Some.after.now c.last_answer.result None
    c.in-Some.ensures.0 c.in-Some.ensures.1 c.in_default-read_line.ensures c.last_answer.ensures))

-- the fault of a line whose command is refused: want of memory, or the refusal
fault_of : (n : ℕ) (e : Refused) (found : ReplayFault) (wanted : Result State Refused) → (((e ≡ refused.NoMemory) × IsOk wanted) ⊎ (wanted ≡ Err e)) → (e ≡ refused.NoMemory → found ≡ fault.NoMemory)
    → ((found ≡ fault.NoMemory) ⊎ (found ≡ fault.Refused n e)) → (found ≡ fault.NoMemory) ⊎ ((found ≡ fault.Refused n e) × (wanted ≡ Err e))
fault_of n e found wanted (inl memory) none own = inl (none memory.0)
fault_of n e found wanted (inr is) none (inl memory) = inl memory
fault_of n e found wanted (inr is) none (inr other) = inr (other, is)

pub returns-in-Err : goal.returns-in-Err
returns-in-Err c = elim (fault_of c.loop-number.number c.in-Err.refused c.fault_at.result (step c.loop-number.monitor c.in-Some-read_line.command) c.in-Err.ensures.exact.0 c.fault_at.ensures.memory c.fault_at.ensures.own) [
  | inl memory ↦ inl (ap Err memory)
  | inr is ↦ inr (c.loop-number.invariant.comes (Err c.fault_at.result)
      (at-line c.loop-number.number c.loop-number.monitor c.loop-number.rest.now c.in-Some.line.now c.in-Some.after.now (Err c.fault_at.result) (Some c.in-Some-read_line.command)
      c.in-Some.ensures.0 c.in-Some.ensures.1 c.in-Some-read_line.ensures
      (subst (λ (r : Result State Refused). Takes c.loop-number.number r (λ t. Replays (c.loop-number.number + 1) t (pieces c.in-Some.after.now) (Err c.fault_at.result)) (Err c.fault_at.result))
      (sym is.1) (ap Err is.0))))
]

pub loop-number-preserved : goal.loop-number-preserved
loop-number-preserved c =
    let size = ap length c.in-Some.ensures.0 ∙ length-append c.in-Some.line.now (10 ∷ c.in-Some.after.now) in
    record {
      comes = λ answer more. c.loop-number.invariant.comes answer
          (at-line c.loop-number.number c.loop-number.monitor c.loop-number.rest.now c.in-Some.line.now c.in-Some.after.now answer (Some c.in-Some-read_line.command)
          c.in-Some.ensures.0 c.in-Some.ensures.1 c.in-Some-read_line.ensures
          (subst (λ (r : Result State Refused). Takes c.loop-number.number r (λ t. Replays (c.loop-number.number + 1) t (pieces c.in-Some.after.now) answer) answer)
          (sym c.in_default-apply.ensures.exact) more));
      count = omega (arith, size, c.loop-number.invariant.count);
    }

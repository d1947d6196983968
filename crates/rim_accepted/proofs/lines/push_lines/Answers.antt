use Rattle.std.proofs.lemmas.Result.{err_from_is_err_and}
use Rattle.std.proofs.Common.{◌≡◌, ◌∙◌, ◌+◌, ◌<◌, ◌∷◌, ◌++◌, List, ℕ, ap, arith, inl, inr, length, sym}
use Rattle.std.specs.Prelude.{vec_capacity}
use Rattle.rim_manifest.specs.Launches.{NamedData}
use Rattle.rim_accepted.specs.Lines.{line_with_outcome, lines_with}
use Rattle.rim_accepted.proofs.LinesOfLaunches.{lines-over, no-room}
use Rattle.rim_accepted.proofs.lines.push_lines.Goals as goal

pub returns-clause-text : goal.returns-clause-text
returns-clause-text c = lines-over _ _ _ _ (elim c.in-None.ensures.steps [ inl first ↦ inl first.1.0 | inr second ↦ inr second.1.0 ]) c.loop-launch.invariant.0

pub returns-in_err-push_line-clause-full : goal.returns-in_err-push_line-clause-full
returns-in_err-push_line-clause-full c =
    let p = err_from_is_err_and c.from_residual.result c.from_residual.ensures.1 in
    let steps = c.in-Some.ensures.steps in
    let line : List ℕ = line_with_outcome c.in-Some.launch.now c.in-Some.outcome.now in
    let next : lines_with c.loop-launch.launch-iterator.a.rest.now c.loop-launch.launch-iterator.b.rest.now
    ≡ line ++ lines_with c.next.new.self.a.rest.now c.next.new.self.b.rest.now
    = ap (λ (ls : List NamedData). lines_with ls c.loop-launch.launch-iterator.b.rest.now) steps.0
    ∙ ap (lines_with (c.in-Some.launch.now ∷ c.next.new.self.a.rest.now)) steps.1 in
    let full = c.in_err-push_line.ensures.full in
    let room : vec_capacity c.loop-launch.text < length c.loop-launch.text.items + length line = omega (arith, full, c.loop-launch.text.ok.0) in
    let none =
    no-room c.args.text.now.items c.loop-launch.text.items line (lines_with c.next.new.self.a.rest.now c.next.new.self.b.rest.now)
    (lines_with c.args.launches.now c.args.outcomes.now)
    (vec_capacity c.loop-launch.text) (vec_capacity c.args.text.now)
    (sym (ap (λ (text : List ℕ). c.loop-launch.text.items ++ text) next) ∙ c.loop-launch.invariant.0) c.loop-launch.invariant.1 room in
    rw p.1 (omega (arith, none, c.args.text.now.ok.0))

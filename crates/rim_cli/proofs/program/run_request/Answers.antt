use Rattle.std.proofs.Common.{ℕ, List, ap, inl, inr, refl, ◌∙◌}
use Rattle.rim_files.specs.Files.{Known}
use Rattle.rim_cli.specs.Done.{KeepsOthers, output_of}
use Rattle.rim_cli.proofs.program.run_request.Goals as goal

pub returns-in-Ok-clause-done : goal.returns-in-Ok-clause-done
returns-in-Ok-clause-done g c done = record {
  text = c.in-Ok.answer.text.items;
  made = rw (c.deliver-status.ensures.own done) c.in-Ok.ensures.answered;
  written = c.deliver-status.ensures.done done;
  others = λ path other. c.deliver-status.ensures.others path other ∙ ap (λ (h : List ℕ → Known). h path) c.answer_to.ensures.stays;
}

pub returns-in-Ok-clause-refused : goal.returns-in-Ok-clause-refused
returns-in-Ok-clause-refused g c failed = inr (elim c.deliver-status.ensures.ends [
  | inl written ↦ inr (record {
    text = c.in-Ok.answer.text.items;
    made = rw written.0 c.in-Ok.ensures.answered;
    written = written.1;
    others = λ path other. c.deliver-status.ensures.others path other ∙ ap (λ (h : List ℕ → Known). h path) c.answer_to.ensures.stays;
  })
  | inr three ↦ inl (record {
    text = c.in-Ok.answer.text.items;
    status = c.in-Ok.answer.status;
    made = c.in-Ok.ensures.answered;
    kept = three.1 ∙ c.answer_to.ensures.stays;
  })
])

pub returns-in-Err-clause-refused : goal.returns-in-Err-clause-refused
returns-in-Err-clause-refused g c failed = inl (
  record {
    fault = c.in-Err.fault;
    refused = c.in-Err.ensures.refused;
    status = c.report_fault-status.ensures.value;
  },
  (refl, c.advise.ensures.stays ∙ c.answer_to.ensures.stays),
)

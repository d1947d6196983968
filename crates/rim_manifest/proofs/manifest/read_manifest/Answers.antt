use Rattle.std.proofs.Common.{◌∙◌, ◌≡◌, true, Some, None, sym, inr}
use Rattle.std.proofs.lemmas.Bool.{false≢true}
use Rattle.toml.specs.Errors.{IsMemory}
use Rattle.rim_manifest.proofs.ReadStepByStep.{answered, document_read, document_refused, refused}
use Rattle.rim_manifest.proofs.manifest.read_manifest.Goals as goal

pub returns : goal.returns
returns c =
    let document = document_read c.args.text.now _ c.in-Ok.ensures.ok.0 c.in-Ok.ensures.ok.1 in
    rw (← answered c.args.text.now _ None document (sym c.in-None.is ∙ c.in_ok-fault.ensures)) c.read_release.ensures

pub returns-in-Some : goal.returns-in-Some
returns-in-Some c =
    let document = document_read c.args.text.now _ c.in-Ok.ensures.ok.0 c.in-Ok.ensures.ok.1 in
    inr (sym (answered c.args.text.now _ (Some c.in-Some.fault) document (sym c.in-Some.is ∙ c.in_ok-fault.ensures)))

pub returns-in-Err : goal.returns-in-Err
returns-in-Err c =
    let not_memory : ¬ (IsMemory c.in-Err.error) = λ m. let t : c.is_memory.result ≡ true = c.is_memory.ensures.1 m in
    false≢true (sym c.if-is_memory.false ∙ t) in
    inr (sym (refused c.args.text.now (document_refused c.args.text.now (c.in-Err.ensures.refused not_memory))))

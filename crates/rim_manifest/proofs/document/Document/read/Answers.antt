use Rattle.rim_manifest.proofs.ReadStepByStep.{document_read, document_refused}
use Rattle.rim_manifest.proofs.document.Document.read.Goals as goal

pub returns-in-Ok-clause-document : goal.returns-in-Ok-clause-document
returns-in-Ok-clause-document c = document_read c.args.text.now _ c.in-Ok.ensures.ok.0 c.in-Ok.ensures.ok.1

pub returns-in-Err-clause-refused : goal.returns-in-Err-clause-refused
returns-in-Err-clause-refused c = λ not_memory. document_refused c.args.text.now (c.in-Err.ensures.refused not_memory)

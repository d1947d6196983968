use Rattle.std.proofs.Common.{inr, refl}
use Rattle.rim_files.specs.declared.fault.Fault.TheVariants.{Manifest, NoMemory}
use Rattle.rim_c.proofs.answers.paths.Goals as goal

pub returns-in-Err : goal.returns-in-Err
returns-in-Err c = inr (record { fault = Manifest c.in-Err.fault; holds = c.in-Err.ensures; is = c.code_of.ensures.value; kept = (refl, refl) })

pub returns : goal.returns
returns c = inr (record { fault = NoMemory; holds = tt; is = c.code_of-in-Err-paths_text.ensures.value; kept = (refl, refl) })

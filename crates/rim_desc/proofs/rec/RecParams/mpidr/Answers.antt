use Rattle.rim_desc.proofs.rec.RecParams.mpidr.Goals as goal

pub returns : goal.returns
returns c = rw (← c.self.view_is)

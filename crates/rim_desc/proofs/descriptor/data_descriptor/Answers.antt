use Rattle.std.proofs.Common.{rules}
use Rattle.rim_desc.specs.Page.{zeros}
use Rattle.rim_desc.specs.Descriptor.{data_descriptor_of}
use Rattle.rim_desc.proofs.descriptor.data_descriptor.Goals as goal

pub returns-in-Some : goal.returns-in-Some
unfolding data_descriptor_of
returns-in-Some c = rw c.in-Some.is (search rules)

pub returns-in-None : goal.returns-in-None
unfolding data_descriptor_of zeros
returns-in-None c = rw c.in-None.is (search rules)

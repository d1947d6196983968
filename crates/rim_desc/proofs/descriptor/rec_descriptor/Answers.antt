use Rattle.std.proofs.Common.{rules}
use Rattle.rim_desc.specs.Descriptor.{rec_descriptor_of}
use Rattle.rim_desc.proofs.descriptor.rec_descriptor.Goals as goal

pub returns : goal.returns
unfolding rec_descriptor_of
returns c = search rules

use Rattle.std.proofs.Common.{rules}
use Rattle.rim_desc.specs.Descriptor.{ripas_descriptor_of}
use Rattle.rim_desc.proofs.descriptor.ripas_descriptor.Goals as goal

pub returns : goal.returns
unfolding ripas_descriptor_of
returns c = search rules

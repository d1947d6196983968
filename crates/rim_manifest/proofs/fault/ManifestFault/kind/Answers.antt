use Rattle.rim_manifest.proofs.fault.ManifestFault.kind.Goals as goal

pub returns-in-Limit : goal.returns-in-Limit
returns-in-Limit c = rw c.in-Limit.is

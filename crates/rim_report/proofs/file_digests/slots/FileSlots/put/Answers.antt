use Rattle.std.proofs.Common.{arith}
use Rattle.rim_report.proofs.DigestsInSlots.{digest-within, slot-filled}
use Rattle.rim_report.proofs.file_digests.slots.FileSlots.put.Goals as goal

pub index_mut-requires : goal.index_mut-requires
index_mut-requires g c =
    let hashed = c.args.hashed in
    let low = digest-within g.L.FilesOfRun.files hashed.number hashed.digest hashed.own in
    omega (arith, low, c.self.invariant.1.size, c.self.inside.slots.ok.0)

pub invariant_of-self : goal.invariant_of-self
invariant_of-self g c =
    let hashed = c.args.hashed in (
      c.self.invariant.0,
      slot-filled g.L.FilesOfRun.files c.self.inside.slots.items hashed.number hashed.digest c.self.invariant.1 hashed.own,
      c.self.invariant.2,
      c.self.invariant.3,
    )

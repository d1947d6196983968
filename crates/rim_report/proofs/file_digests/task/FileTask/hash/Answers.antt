use Rattle.rim_report.proofs.DigestsInSlots.{digest-made}
use Rattle.rim_report.proofs.file_digests.task.FileTask.hash.Goals as goal

pub invariant_of-result : goal.invariant_of-result
invariant_of-result g c =
    let task = c.args.self in record {
      own = digest-made g.L.FilesOfRun.files task.number task.bytes.now c.digest.result task.own c.digest.ensures;
    }

use Rattle.std.proofs.Common.{rules}
use Rattle.std.proofs.lemmas.List.{take_at}
use Rattle.rmi_line.proofs.reader.padded.Goals as goal

pub returns : goal.returns
returns c = rw c.copy_from_slice.ensures.after (take_at c.args.digest.now _ 32 (search rules))

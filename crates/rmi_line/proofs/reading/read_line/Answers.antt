use Rattle.rmi_line.proofs.ReadNamed.{not_named}
use Rattle.rmi_line.proofs.reading.read_line.Goals as goal

pub returns : goal.returns
returns c =
    not_named c.args.line.now c.in_default.ensures c.in_default-after.ensures c.in_default-after-2.ensures c.in_default-after-3.ensures
    c.in_default-after-4.ensures c.in_default-after-5.ensures c.in_default-after-6.ensures c.in_default-after-7.ensures

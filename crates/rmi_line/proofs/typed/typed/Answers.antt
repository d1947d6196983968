use Rattle.std.proofs.Common.{rules, arith, subst}
use Rattle.std.specs.List.{All}
use Rattle.rmi_line.specs.Typed.{IsByte}
use Rattle.rmi_line.proofs.typed.typed.Goals as goal

pub returns-in-RealmCreate : goal.returns-in-RealmCreate
returns-in-RealmCreate c =
    let words = c.words_fit-in-RealmCreate.ensures in
    let levels = c.bytes_fit.ensures in
    rw c.in-RealmCreate.is (
      words 0 0 (omega arith),
      record {
        rtt_base = words 1 0 (omega arith);
        rtt_level_start = levels 0 0 (omega arith);
        rtt_num_start = levels 1 0 (omega arith);
        s2sz = levels 2 0 (omega arith);
        flags = words 2 0 (omega arith);
        numbers = subst (All IsByte) c.in_order.ensures c.bytes_fit-in-RealmCreate.ensures;
        rpv = (search rules, c.bytes_fit-in-RealmCreate-2.ensures);
      },
    )

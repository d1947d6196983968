use Rattle.std.proofs.Common.{take}
use Rattle.std.proofs.lemmas.List.{take_more}
use Rattle.job_board.specs.declared.grouping.Stretch.{Stretch}
use Rattle.job_board.proofs.GroupsOfStretches.{next_comes}
use Rattle.job_board.proofs.grouping.grouped.Goals as goal

abbrev none : Stretch
none = record { first = 0; count = 0; launch = 0 }

pub loop-stretch-preserved : goal.loop-stretch-preserved
loop-stretch-preserved c = λ pages launches are.
    let ss = c.args.stretches.now in
    let i = c.loop-stretch.stretch-index in
    rw (take_more ss i none c.loop-stretch-test.true) (c.in_ok-add_stretch.ensures pages launches (take i ss) (next_comes pages launches ss i none are c.loop-stretch-test.true) (c.loop-stretch.invariant pages launches are))

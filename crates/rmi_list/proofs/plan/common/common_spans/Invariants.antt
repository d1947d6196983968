use Rattle.std.proofs.Common.{take}
use Rattle.rmi_list.specs.inside.Common.{AreCommon}
use Rattle.rmi_list.proofs.plan.common.common_spans.Given as goal

-- the spans before this one are common
abbrev pub invariant-loop-at : goal.invariant-loop-at
invariant-loop-at l = AreCommon l.marks l.recs (take l.at l.spans) l.other_recs (take l.at l.others)

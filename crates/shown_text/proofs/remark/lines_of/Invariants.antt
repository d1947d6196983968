use Rattle.std.proofs.Common.{◌≡◌, take}
use Rattle.shown_text.specs.Lines.{lines_of}
use Rattle.shown_text.proofs.remark.lines_of.Given as goal

abbrev pub invariant-loop-remark : goal.invariant-loop-remark
invariant-loop-remark l = l.text.items ≡ lines_of (take l.remark-index l.remarks)

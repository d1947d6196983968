use Rattle.std.proofs.Common.{◌≡◌, map, take}
use Rattle.serde_json.specs.View.{view}
use Rattle.shown_text.specs.RemarkJson.{remark_json}
use Rattle.shown_text.proofs.json.remark_values.Given as goal

-- what was made are the remarks so far
abbrev pub invariant-loop-remark : goal.invariant-loop-remark
invariant-loop-remark l = map view l.values.items ≡ map remark_json (take l.remark-index l.remarks)

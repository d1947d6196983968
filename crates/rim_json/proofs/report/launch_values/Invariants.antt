use Rattle.std.proofs.Common.{◌≡◌, map, take}
use Rattle.serde_json.specs.View.{view}
use Rattle.rim_json.specs.ReportJson.{launches_json}
use Rattle.rim_json.specs.inside.Seen.{news_of}
use Rattle.rim_json.proofs.report.launch_values.Given as goal

-- what was made
abbrev pub invariant-loop-number : goal.invariant-loop-number
invariant-loop-number l =
    map view l.values.items
    ≡ launches_json l.given.accepted.now.release.paths l.given.accepted.now.files (news_of l.given) 0 (take l.number l.given.accepted.now.release.launches)

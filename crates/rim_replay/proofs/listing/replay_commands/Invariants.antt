use Rattle.std.proofs.Common.{◌+◌, ◌≤◌, length}
use Rattle.rim_replay.specs.Replay.{Answer, Replays}
use Rattle.rim_replay.proofs.PiecesOfTexts.{pieces}
use Rattle.rim_replay.proofs.listing.replay_commands.Given as goal

-- what the lines that are left come to is what all of them come to; each line before them has a byte at least
abbrev pub invariant-loop-number : goal.invariant-loop-number
invariant-loop-number l = record {
  comes : (answer : Answer) → Replays l.number l.monitor (pieces l.rest) answer → Replays 2 l.initial.monitor (pieces l.text) answer;
  count : l.number + length l.rest ≤ length l.text + 2;
}

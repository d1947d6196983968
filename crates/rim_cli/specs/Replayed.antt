-- What is said of a listing that was replayed, and the status. This project's choice.
use Rattle.std.specs.Prelude.{◌≡◌, ℕ, List, ◌++◌, Option, Some, None, Ok, Err, codes, is_err, if◌then◌else◌}
use Rattle.std.specs.Fmt.{decimal}
use Rattle.rim_replay.specs.Kinds.{refused_kind_of}
use Rattle.rim_replay.specs.Replay.{Answer, ReplayAnswer}
use Rattle.rim_replay.specs.declared.fault.ReplayFault.TheVariants as fault

-- the line of an answer, where memory did not run out
abbrev pub replay_text : Answer → Option (List ℕ)
replay_text (Ok done) = Some (codes "yes\n")
replay_text (Err (fault.Line n)) = Some (codes "no line " ++ (decimal n ++ codes "\n"))
replay_text (Err (fault.Refused n refused)) = Some (codes "no refused " ++ (decimal n ++ (codes " " ++ (refused_kind_of refused ++ codes "\n"))))
replay_text (Err fault.WrongRim) = Some (codes "no wrong-rim\n")
replay_text (Err fault.NoMemory) = None

-- what is shown of a listing is what it comes to, and the status is 1 where that is a fault of the listing
pub record IsReplayed (bytes shown : List ℕ) (answer : ℕ) : Type 0 where
  pub outcome : Answer
  pub comes : ReplayAnswer bytes outcome
  pub text : replay_text outcome ≡ Some shown
  pub status : answer ≡ (if is_err outcome then 1 else 0)

-- Facts about commands, launches and files that follow from the program's types: each measured number fits in its bits.
-- The laws take values of those types, so their statements need no such conditions.
use Rattle.std.specs.Prelude.{◌≡◌, ℕ, List, [], length, unwrap_or, ⊤}
use Rattle.std.specs.List.{All}
use Rattle.rim_desc.specs.Numbers.{in_order}
use Rattle.rim_desc.specs.declared.command.Command.{Command}
use Rattle.rim_desc.specs.declared.command.Command.TheVariants.{RealmCreate, RecCreate}
use Rattle.rim_launch.specs.LaunchData.{LaunchData}
use Rattle.ipa_layout.specs.Layout.{PlacedData}
use Rattle.ipa_layout.specs.declared.rec.PlacedRec.{PlacedRec}
use Rattle.rmi_line.specs.Typed.{IsByte, IsWord}
use Rattle.rim_binding.specs.Event.{FitsParams, FitsRec, measured_params, measured_rec}

-- the measured parameters of a command
abbrev pub FitsCommand : Command → Type 0
FitsCommand (RealmCreate rd params) = FitsParams (measured_params params)
FitsCommand (RecCreate rec params) = FitsRec (measured_rec params)
FitsCommand _ = ⊤

abbrev pub FitsPlacedRec : PlacedRec → Type 0
FitsPlacedRec r = IsWord r.pc × (length r.x ≡ 8) × All IsWord r.x

-- a placed launch, with the files of its release
pub record FitsLaunch (files : List (List ℕ)) (l : LaunchData) (p : PlacedData) : Type 0 where
  pub numbers : All IsByte (in_order l.config.numbers)
  pub recs : All FitsPlacedRec p.recs
  pub each_file : All (All IsByte) files
  pub edited : All IsByte (unwrap_or p.edited [])

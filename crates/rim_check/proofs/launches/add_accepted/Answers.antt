use Rattle.std.proofs.Common.{◌∙◌, ℕ, OnOk, ap, subst}
use Rattle.rim_launch.specs.LaunchData.{LaunchData}
use Rattle.rim_check.specs.inside.Found.{AddsNumber, numbers_of}
use Rattle.rim_check.proofs.launches.add_accepted.Goals as goal

pub returns-clause-warnings : goal.returns-clause-warnings
returns-clause-warnings c =
    subst (λ (number : ℕ). OnOk c.add_all.result (AddsNumber number (numbers_of c.args.found.now.warnings) (numbers_of c.add_all.new.self)))
    (c.number.ensures ∙ ap (λ (l : LaunchData). l.number) c.launch.ensures) c.add_all.ensures

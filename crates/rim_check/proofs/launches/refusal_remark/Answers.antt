use Rattle.std.proofs.Common.{◌∙◌, ap, refl}
use Rattle.rim_launch.specs.LaunchData.{LaunchData}
use Rattle.rim_check.proofs.SaidOfLaunches.{says-refusal}
use Rattle.rim_check.proofs.launches.refusal_remark.Goals as goal

pub returns : goal.returns
returns c =
    says-refusal c.args.refused.now.named.now c.args.refused.now.reason _ _ _ _ _ _ _ c.name.ensures
    (c.config-config.ensures.value ∙ ap (λ (l : LaunchData). l.config) c.launch.ensures) c.fault.ensures c.kind.ensures refl
    (c.as_str.ensures.value ∙ c.in_ok-given.ensures) (c.as_str-2.ensures.value ∙ c.in_ok-expected.ensures)
    c.in_ok-launch_place.ensures c.in_ok-of.ensures c.in_ok-of-2.ensures

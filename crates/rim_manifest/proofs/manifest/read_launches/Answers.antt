use Rattle.std.proofs.Common.{map, inl, inr}
use Rattle.std.proofs.lemmas.Result.{err_from_is_err_and}
use Rattle.toml.specs.View.{view}
use Rattle.rim_manifest.specs.Launches.{launch_of}
use Rattle.rim_manifest.proofs.MadeWithoutFaults.{made_step, one_not_made, read_made}
use Rattle.rim_manifest.proofs.LaunchesNumbered.{launches_step}
use Rattle.rim_manifest.proofs.manifest.read_launches.Goals as goal

pub loop-number-preserved : goal.loop-number-preserved
loop-number-preserved c =
    let read =
    read_made (launch_of c.args.version (map view c.args.files.now) c.loop-number.number
    (view c.index-tables-number.result)) _ c.in_ok-read_launch.ensures in (
      launches_step c.args.version (map view c.args.files.now) _ _ c.index-tables-number.result _ _ _ c.loop-number-test.true c.index-tables-number.is
          c.loop-number.invariant.0 read.0 c.in_ok-push.ensures,
      made_step _ _ _ c.loop-number.invariant.1 read.1 c.in_ok-push.ensures,
    )

pub returns-in_err-read_launch : goal.returns-in_err-read_launch
returns-in_err-read_launch c =
    let p = err_from_is_err_and c.from_residual-in_err-read_launch.result c.from_residual-in_err-read_launch.ensures.1 in
    rw (p.1, p.2) (elim c.in_err-read_launch.ensures [
      | inl memory ↦ inl memory
      | inr refused ↦
          inr (one_not_made c.args.version (map view c.args.files.now) c.args.tables.now c.loop-number.number c.index-tables-number.result _
          c.loop-number-test.true c.index-tables-number.is refused)
    ])

use Rattle.std.proofs.lemmas.Result.{IfOk-weaker}
use Rattle.map_rows.proofs.granules.count_granules.Goals as goal

pub returns : goal.returns
returns c =
    IfOk-weaker c.counted.result _ _
    (λ g counts. record { entries = c.args.listed.now.plan; listed = c.args.listed.now.is_plan; counts = counts }) c.counted.ensures

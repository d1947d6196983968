use Rattle.rmi_list.proofs.StepsAreListed.{no-room, region-continues, region-refused}
use Rattle.rmi_list.proofs.draft.Draft.region.Goals as goal

pub returns-in-Err : goal.returns-in-Err
returns-in-Err c = rw (c.of_plan.ensures, c.region_range.ensures) (region-refused c.args.self.now c.args.region.now c.in-Err.fault c.in-Err.ensures.acts)

pub acts-requires : goal.acts-requires
acts-requires c = no-room _ 0

pub returns : goal.returns
returns c =
    let acts = c.in-Ok.acts.items in
    region-continues c.args.self.now c.acts.new.self c.ripas_runs.new.self c.args.region.now acts c.acts.result c.requires c.in-Ok.ensures.acts c.in-Ok.ensures.after
    (rw (← c.deref.ensures.value) c.acts.ensures)

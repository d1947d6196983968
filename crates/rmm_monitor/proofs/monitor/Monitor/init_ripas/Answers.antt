use Rattle.std.proofs.Common.{◌≡◌, ◌∙◌, ◌<◌, ◌-◌, ◌/◌, sym, refl, false, arith}
use Rattle.std.proofs.lemmas.Grind.{common_steps}
use Rattle.rmm_model.specs.Blocks.{size}
use Rattle.rmm_model.specs.Checks.{is_cut, walk_of}
use Rattle.rmm_monitor.proofs.StretchesBecomeRam.{count-some, measured-stretches}
use Rattle.rmm_monitor.proofs.monitor.Monitor.init_ripas.Goals as goal

pub returns : goal.returns
returns c =
    let level : c.walk_level-level.result ≡ walk_of c.args.self.now.space c.args.base = c.walk_level-level.ensures.value ∙ rw (← c.self.view_is) refl in
    let whole : is_cut c.walk_level-level.result c.args.base c.args.top ≡ false = sym c.if-is_cut.ensures in
    let some : 0 < (c.args.top - c.args.base) / size (walk_of c.args.self.now.space c.args.base) = rw (← level) (count-some c.walk_level-level.result c.args.base c.args.top (omega arith) whole) in
    rw (measured-stretches _ _ _ _ some) (grind (arith, common_steps) steps 700000)

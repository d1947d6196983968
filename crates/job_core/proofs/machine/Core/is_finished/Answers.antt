use Rattle.std.proofs.Common.{◌≡◌, ◌∙◌, false, subst}
use Rattle.std.specs.Prelude.{◌==◌}
use Rattle.std.proofs.lemmas.Bool.{eq-eqb, ne_eqb}
use Rattle.job_core.specs.Jobs.{CoreState, is_over}
use Rattle.job_core.proofs.CoreCounts.{finished_then, finished_else}
use Rattle.job_core.proofs.machine.Core.is_finished.Goals as goal

pub returns-then-self-eq0 : goal.returns-then-self-eq0
returns-then-self-eq0 c =
    let i = c.self.inside in
    let none = eq-eqb i.pages_left 0 c.if-self-eq0.true in
    subst (λ (u : CoreState). (i.launches_left == 0) ≡ is_over u) c.self.view_is (finished_then i.pages_from i.pages_left i.launches_left i.jobs c.self.invariant.1 none)

pub returns-else-self-eq0 : goal.returns-else-self-eq0
returns-else-self-eq0 c =
    let i = c.self.inside in
    let some = ne_eqb i.pages_left 0 c.if-self-eq0.false in
    some ∙ subst (λ (u : CoreState). false ≡ is_over u) c.self.view_is (finished_else i.pages_from i.pages_left i.launches_left i.jobs c.self.invariant.1 some)

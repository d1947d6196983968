use Rattle.std.proofs.Common.{ℕ, ◌+◌, ◌*◌, ◌/◌, ap, sym}
use Rattle.std.specs.Prelude.{None, Some}
use Rattle.rim_desc.specs.declared.command.Command.TheVariants.{Delegate, DataCreate, DataCreateUnknown}
use Rattle.rmi_list.proofs.CommandsOfSpans.{even-at, odd-at}
use Rattle.rmi_list.proofs.plan.page_command.Goals as goal

pub returns-then-offset-eq0 : goal.returns-then-offset-eq0
returns-then-offset-eq0 c = λ item page count lt.
    rw (even-at c.args.pool c.args.known item c.args.offset count c.args.granule page c.args.ipa c.if-offset-eq0.true lt)
    (ap (λ (g : ℕ). Some (Delegate g)) (sym c.granule_at-granule.ensures))

pub returns-in-Measured : goal.returns-in-Measured
returns-in-Measured c = λ item page count lt.
    rw (odd-at c.args.pool c.args.known item c.args.offset count c.args.granule page c.args.ipa c.if-offset-eq0.false lt, c.in-Measured.is)
    (ap (λ (g : ℕ). Some (DataCreate g (c.args.ipa + 4096 * (c.args.offset / 2)) (Some c.args.content.now))) (sym c.granule_at-granule.ensures))

pub returns-in-Unmeasured : goal.returns-in-Unmeasured
returns-in-Unmeasured c = λ item page count lt.
    rw (odd-at c.args.pool c.args.known item c.args.offset count c.args.granule page c.args.ipa c.if-offset-eq0.false lt, c.in-Unmeasured.is)
    (ap (λ (g : ℕ). Some (DataCreate g (c.args.ipa + 4096 * (c.args.offset / 2)) None)) (sym c.granule_at-granule.ensures))

pub returns-in-Unknown : goal.returns-in-Unknown
returns-in-Unknown c = λ item page count lt.
    rw (odd-at c.args.pool c.args.known item c.args.offset count c.args.granule page c.args.ipa c.if-offset-eq0.false lt, c.in-Unknown.is)
    (ap (λ (g : ℕ). Some (DataCreateUnknown g (c.args.ipa + 4096 * (c.args.offset / 2)))) (sym c.granule_at-granule.ensures))

use Rattle.std.proofs.Common.{◌≡◌, ℕ, ◌*◌, ◌<◌, ap, arith, refl, subst, sym}
use Rattle.std.specs.Prelude.{Some, option_map}
use Rattle.rim_desc.specs.declared.command.Command.TheVariants as command
use Rattle.list_model.specs.Entries.{Entry, command_of}
use Rattle.rmi_list.specs.declared.span.Span.{Span}
use Rattle.rmi_list.specs.inside.Spans.{commands_in}
use Rattle.rmi_list.proofs.plan.command_in.Goals as goal

pub returns-in-Delegate : goal.returns-in-Delegate
returns-in-Delegate c =
    let lt : c.args.offset < 1 = subst (λ (k : Span). c.args.offset < commands_in k) c.in-Delegate.is c.requires.within in
    let e : c.args.offset ≡ 0 = omega arith in
    rw (c.in-Delegate.is, e) (ap (λ (g : ℕ). Some (command.Delegate g)) (sym c.granule_at.ensures))

pub returns-in-RealmCreate : goal.returns-in-RealmCreate
returns-in-RealmCreate c =
    let lt : c.args.offset < 1 = subst (λ (k : Span). c.args.offset < commands_in k) c.in-RealmCreate.is c.requires.within in
    let e : c.args.offset ≡ 0 = omega arith in
    rw (c.in-RealmCreate.is, e) (ap (λ (g : ℕ). Some (command.RealmCreate g c.args.params)) (sym c.granule_at-in-RealmCreate.ensures))

pub returns-in-RttCreate : goal.returns-in-RttCreate
returns-in-RttCreate c =
    let lt : c.args.offset < 1 = subst (λ (k : Span). c.args.offset < commands_in k) c.in-RttCreate.is c.requires.within in
    let e : c.args.offset ≡ 0 = omega arith in
    rw (c.in-RttCreate.is, e) (ap (λ (g : ℕ). Some (command.RttCreate g c.in-RttCreate.ipa c.in-RttCreate.level)) (sym c.granule_at-in-RttCreate.ensures))

pub returns-in-InitRipas : goal.returns-in-InitRipas
returns-in-InitRipas c =
    let lt : c.args.offset < 1 = subst (λ (k : Span). c.args.offset < commands_in k) c.in-InitRipas.is c.requires.within in
    let e : c.args.offset ≡ 0 = omega arith in
    rw (c.in-InitRipas.is, e) refl

pub returns-in-RecCreate : goal.returns-in-RecCreate
returns-in-RecCreate c =
    let lt : c.args.offset < 1 = subst (λ (k : Span). c.args.offset < commands_in k) c.in-RecCreate.is c.requires.within in
    let e : c.args.offset ≡ 0 = omega arith in
    rw (c.in-RecCreate.is, e) (ap (λ (x : Entry). option_map (command_of (λ item page. c.args.content.now)) (Some x)) (sym c.rec_create.ensures))

pub returns-in-Activate : goal.returns-in-Activate
returns-in-Activate c =
    let lt : c.args.offset < 1 = subst (λ (k : Span). c.args.offset < commands_in k) c.in-Activate.is c.requires.within in
    let e : c.args.offset ≡ 0 = omega arith in
    rw (c.in-Activate.is, e) refl

pub returns-in-Pages : goal.returns-in-Pages
returns-in-Pages c =
    let lt : c.args.offset < 2 * c.in-Pages.count = subst (λ (k : Span). c.args.offset < commands_in k) c.in-Pages.is c.requires.within in
    rw c.in-Pages.is (c.page_command.ensures c.in-Pages.item c.in-Pages.page c.in-Pages.count lt)

use Rattle.std.proofs.Common.{◌≡◌, ◌∙◌, ◌<◌, ◌-◌, ℕ, length, true, eqb, refl, sym, ap, arith}
use Rattle.std.proofs.lemmas.Bool.{eq-eqb}
use Rattle.std.proofs.lemmas.Bool.Decides.{nat_tests}
use Rattle.std.proofs.lemmas.Option.{same_Some, slice_get_read}
use Rattle.job_core.specs.declared.reaches.PageGroup.{PageGroup}
use Rattle.job_board.proofs.grouping.begins_last.Goals as goal

eqb_is : (a b : ℕ) → eqb a b ≡ true → a ≡ b
eqb_is a b h = grind (arith, nat_tests)

pub returns-clause-yes : goal.returns-clause-yes
returns-clause-yes c = λ h.
    let gs = c.args.groups.now in
    let lt : length gs - 1 < length gs = omega (arith, c.if-count-eq0.false) in
    (c.index-groups-count.result, slice_get_read gs (length gs) (length gs - 1) c.index-groups-count.result refl lt c.index-groups-count.is, eqb_is c.index-groups-count.result.first c.args.first h)

pub returns-clause-no : goal.returns-clause-no
returns-clause-no c = λ h g at same.
    let gs = c.args.groups.now in
    let lt : length gs - 1 < length gs = omega (arith, c.if-count-eq0.false) in
    let own = same_Some c.index-groups-count.result g (sym (slice_get_read gs (length gs) (length gs - 1) c.index-groups-count.result refl lt c.index-groups-count.is) ∙ at) in
    let wrong = sym h ∙ eq-eqb c.index-groups-count.result.first c.args.first (ap (λ (u : PageGroup). u.first) own ∙ same) in
    cc

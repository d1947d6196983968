use Rattle.std.proofs.Common.{◌≡◌, ◌∙◌, ◌++◌, ◌/◌, ◌%◌, ◌^◌, ◌<◌, ℕ, List, ap, false, rules, subst, sym}
use Rattle.std.specs.Prelude.{string_bytes}
use Rattle.std.specs.Fmt.{digits}
use Rattle.rim_check.proofs.HexadecimalDigits.{AreLast, last-begins, last-ends, last-goes-on}
use Rattle.rim_check.proofs.detail.hexadecimal.Goals as goal

pub loop-rest-init : goal.loop-rest-init
loop-rest-init c = subst (AreLast c.args.number c.args.number) (sym c.new-digits.ensures.bytes) (last-begins c.args.number (let fits : c.args.number < 2 ^ 128 = c.ranges.number.fits in fits))

pub loop-rest-preserved : goal.loop-rest-preserved
loop-rest-preserved c =
    let text : c.as_str.result.now ≡ string_bytes c.loop-rest.digits = search rules in
    let added : string_bytes c.in_ok-digits.digits ≡ digits 16 false (c.loop-rest.rest % 16) ++ string_bytes c.loop-rest.digits =
    c.in_ok-digits.ensures ∙ ap (λ (others : List ℕ). digits 16 false (c.loop-rest.rest % 16) ++ others) text in
    subst (AreLast c.args.number (c.loop-rest.rest / 16)) (sym added) (last-goes-on c.args.number c.loop-rest.rest (string_bytes c.loop-rest.digits) c.loop-rest-test.true c.loop-rest.invariant)

pub returns : goal.returns
returns c =
    let text : c.as_str-2.result.now ≡ string_bytes c.loop-rest.digits = search rules in
    let whole : string_bytes c.in_ok-whole.whole ≡ digits 16 false c.args.number =
    c.in_ok-whole.ensures ∙ ap (λ (others : List ℕ). digits 16 false c.loop-rest.rest ++ others) text
    ∙ last-ends c.args.number c.loop-rest.rest (string_bytes c.loop-rest.digits) c.loop-rest-test.false c.loop-rest.invariant in
    rw whole at c.format.ensures.ok

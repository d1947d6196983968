use Rattle.std.proofs.Common.{suc, ◌≡◌, ◌+◌, ◌*◌, ◌/◌, ◌%◌, ◌<◌, length, get_or, refl, ap, ◌∙◌, add-one, arith}
use Rattle.hex.specs.Hex.{lower_digits}
use Rattle.rmi_line.proofs.HexPairs.{encode_with-pairs, pairs-encode_with, pairs_more}
use Rattle.rmi_line.proofs.digits.decode.Goals as goal
use Rattle.rmi_line.proofs.digits.decode.Goals.{then-high-gt15-via-then-high-gt15, then-high-gt15-via-else-high-gt15+then-low-gt15}

pub returns-then-high-gt15-clause-only : goal.returns-then-high-gt15-clause-only
returns-then-high-gt15-clause-only c = λ spelled size fit same.
    let i = c.loop-i.i in
    let below : i < length spelled = omega arith in
    let byte : get_or spelled i 0 < 256 = fit i 0 below in
    let pair = encode_with-pairs lower_digits spelled i (2 * i) refl below in
    let first : get_or c.args.digits.now (2 * i) 0 ≡ get_or lower_digits (get_or spelled i 0 / 16) 0 =
    ap (λ ds. get_or ds (2 * i) 0) same ∙ pair.0 in
    let second : get_or c.args.digits.now (2 * i + 1) 0 ≡ get_or lower_digits (get_or spelled i 0 % 16) 0 =
    ap (λ j. get_or c.args.digits.now j 0) (add-one (2 * i)) ∙ ap (λ ds. get_or ds (suc (2 * i)) 0) same ∙ pair.1 in
    let high = c.hex_value-high.ensures.only (get_or spelled i 0 / 16) (omega (arith, byte)) first in
    let low = c.hex_value-low.ensures.only (get_or spelled i 0 % 16) (omega (arith, byte)) second in
    elim c.then-high-gt15.branch [
      | then-high-gt15-via-then-high-gt15 w ↦ absurd (omega (arith, high, byte))
      | then-high-gt15-via-else-high-gt15+then-low-gt15 w ↦ absurd (omega (arith, low, byte))
    ]

pub loop-i-preserved : goal.loop-i-preserved
loop-i-preserved c =
    pairs_more lower_digits c.args.digits.now c.loop-i.bytes c.loop-i.i c.hex_value-high.result c.hex_value-low.result
    (omega arith) (omega arith) (omega arith)
    (c.hex_value-high.ensures.found (omega arith)) (c.hex_value-low.ensures.found (omega arith)) c.loop-i.invariant

pub returns-clause-found : goal.returns-clause-found
returns-clause-found c = λ done.
    pairs-encode_with lower_digits c.args.digits.now c.loop-i.bytes (omega arith)
    (λ k j twice below. c.loop-i.invariant k j twice (omega arith))

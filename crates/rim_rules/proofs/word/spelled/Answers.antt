use Rattle.std.proofs.Common.{arith}
use Rattle.std.proofs.lemmas.Int.Digits.{digits_value_more}
use Rattle.std.proofs.lemmas.List.{take_all}
use Rattle.rim_rules.proofs.RoomForDigits.{room_for_digit}
use Rattle.rim_rules.proofs.word.spelled.Goals as goal

pub overflow_mul-number : goal.overflow_mul-number
overflow_mul-number c =
    let room = room_for_digit c.args.radix c.args.digits.now c.loop-byte.byte-index c.requires.radix.1 c.requires.digits c.loop-byte-test.true in
    rw c.loop-byte.invariant (omega (arith, room))

pub overflow_add-number : goal.overflow_add-number
overflow_add-number c =
    let room = room_for_digit c.args.radix c.args.digits.now c.loop-byte.byte-index c.requires.radix.1 c.requires.digits c.loop-byte-test.true in
    rw (c.loop-byte.invariant, c.digit.ensures) (omega (arith, room))

pub loop-byte-preserved : goal.loop-byte-preserved
loop-byte-preserved c =
    rw (c.loop-byte.invariant, c.digit.ensures, digits_value_more c.args.radix c.args.digits.now c.loop-byte.byte-index c.loop-byte-test.true) (cc)

pub returns : goal.returns
returns c = rw (take_all _ _ c.loop-byte-test.false) at c.loop-byte.invariant

-- `numerals::write_digits` meets its contract: the loop keeps that the last digits stand behind the place i, and the front is as it was. Assumes nothing.
use Rattle.rules.proofs.Base.{mod-lt, arith, length-set, rules}
use Rattle.numerals.proofs.Writing.{digits_first, digits_room, digits_on, digits_all, quotient_less}
use Rattle.numerals.proofs.write_digits.Goals as goal

pub loop-left-init : goal.loop-left-init
loop-left-init c =
    let a = c.args in
    let w = digits_first a.radix a.v a.out.now in
    (digits_room a.radix a.v a.out.now _ _ _ w (search rules), w)

pub loop-left-smaller : goal.loop-left-smaller
loop-left-smaller c = quotient_less c.args.radix c.loop-left.left (search rules) (search rules)

pub loop-left-preserved : goal.loop-left-preserved
loop-left-preserved c =
    let a = c.args in
    let l = c.loop-left in
    let w = digits_on a.radix a.v a.out.now l.left l.i l.out l.invariant.1 l.invariant.0 c.digit_byte.result (search rules) (search rules) c.digit_byte.ensures in
    (digits_room a.radix a.v a.out.now _ _ _ w (search rules), w)

pub returns : goal.returns
returns c =
    let a = c.args in
    let l = c.loop-left in
    let w = digits_all a.radix a.v a.out.now l.left l.i l.out l.invariant.1 l.invariant.0 c.digit_byte-2.result (search rules) c.digit_byte-2.ensures in
    record { place = w.0; text = w.1 }

pub digit_byte-requires : goal.digit_byte-requires
digit_byte-requires c = omega (arith, mod-lt c.loop-left.left {m = c.args.radix} (omega arith))

pub shape_of-out : goal.shape_of-out
shape_of-out c = simp length-set c.loop-left.invariant.1.size

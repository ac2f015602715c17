-- `numerals::write_digits` meets its contract: the loop keeps that the last digits stand behind the place i, and the front is as it was. Assumes nothing.
use Rattle.rules.proofs.Base.{◌<◌}
use Rattle.numerals.proofs.Writing.{DigitsLeft}
use Rattle.numerals.proofs.write_digits.Given as goal

abbrev pub invariant-loop-left : goal.invariant-loop-left
invariant-loop-left l = (0 < l.i) × DigitsLeft l.radix l.v l.initial.out l.left l.i l.out

abbrev pub decreases-loop-left : goal.decreases-loop-left
decreases-loop-left l = l.left

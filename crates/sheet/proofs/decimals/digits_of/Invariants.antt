-- `sheet::decimals::digits_of` meets its contract: the loop keeps that the digits go on from the place i, and the number of those before it. Assumes nothing.
use Rattle.rules.proofs.Base.{◌+◌, ◌≡◌, drop}
use Rattle.rules.specs.Bytes.{is_digit}
use Rattle.rules.specs.Sheets.{front_length}
use Rattle.sheet.proofs.Digits.{Read}
use Rattle.sheet.proofs.decimals.digits_of.Given as goal

abbrev pub invariant-loop-i : goal.invariant-loop-i
invariant-loop-i l = (l.i + front_length is_digit (drop l.i l.s) ≡ front_length is_digit l.s) × Read l.s l.v l.i l.number

-- `numerals::read_natural` meets its contract: the loop keeps that the whole is what the rest writes behind v. Assumes nothing.
use Rattle.rules.proofs.Base.{◌≤◌}
use Rattle.numerals.proofs.Reading.{Reads}
use Rattle.numerals.proofs.read_natural.Given as goal

abbrev pub invariant-loop-b : goal.invariant-loop-b
invariant-loop-b l = record { small : l.v ≤ 4294967295; reads : Reads l.radix l.s l.v l.b-index }

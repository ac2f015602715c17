-- `matching::partners_of` meets its contract: the loop keeps that the table has the entries of the bytes from i on. Assumes nothing.
use Rattle.matching.proofs.Replacing.{Entering}
use Rattle.matching.proofs.partners_of.Given as goal

abbrev pub invariant-loop-i : goal.invariant-loop-i
invariant-loop-i l = Entering l.from l.to l.table l.i

-- `matching::borders::fill` meets its contract: the loop keeps that k bytes are a border of the first i, and that no longer one goes on. Assumes nothing.
use Rattle.matching.proofs.Tracking.{Filling}
use Rattle.matching.proofs.borders.fill.Given as goal

abbrev pub invariant-loop-i : goal.invariant-loop-i
invariant-loop-i l = Filling l.needle l.table l.k l.i

-- `matching::borders::search` meets its contract: the loop keeps that the first k bytes of the needle end at i, and that it stands nowhere before.
-- Assumes nothing.
use Rattle.matching.proofs.Tracking.{Searching}
use Rattle.matching.proofs.borders.search.Given as goal

abbrev pub invariant-loop-i : goal.invariant-loop-i
invariant-loop-i l = Searching l.needle l.text l.k l.i

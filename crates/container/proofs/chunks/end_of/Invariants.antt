-- `container::chunks::end_of` meets its contract: the loop keeps that what is read from i on ends where all ends. Assumes nothing.
use Rattle.container.proofs.Reading.{Ending}
use Rattle.container.proofs.chunks.end_of.Given as goal

abbrev pub invariant-loop-owed : goal.invariant-loop-owed
invariant-loop-owed l = Ending l.w l.at l.count l.i l.owed

abbrev pub decreases-loop-owed : goal.decreases-loop-owed
decreases-loop-owed l = l.owed

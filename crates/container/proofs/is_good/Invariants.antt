-- `container::is_good` meets its contract: the loop keeps that from i on the set is as good as it is in whole. Assumes nothing.
use Rattle.rules.proofs.Base.{◌-◌, length}
use Rattle.container.proofs.Judging.{Judging}
use Rattle.container.proofs.is_good.Given as goal

abbrev pub invariant-loop-item : goal.invariant-loop-item
invariant-loop-item l = Judging l.set l.i

abbrev pub decreases-loop-item : goal.decreases-loop-item
decreases-loop-item l = length l.set - l.i

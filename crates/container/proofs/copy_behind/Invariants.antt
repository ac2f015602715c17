-- `container::copy_behind` meets its contract: the loop keeps that k bytes are copied. Assumes nothing.
use Rattle.rules.proofs.Base.{◌-◌, length}
use Rattle.container.proofs.Copying.{Copying}
use Rattle.container.proofs.copy_behind.Given as goal

abbrev pub invariant-loop-k : goal.invariant-loop-k
invariant-loop-k l = Copying l.set l.place l.skip l.initial.into l.into l.k

abbrev pub decreases-loop-k : goal.decreases-loop-k
decreases-loop-k l = length l.initial.into - l.k

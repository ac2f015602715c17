-- `container::find` meets its contract: the loop keeps that the first item with the name is the first from a place on. Assumes nothing.
use Rattle.rules.proofs.Base.{◌-◌, length}
use Rattle.container.proofs.Finding.{Finding}
use Rattle.container.proofs.find.Given as goal

abbrev pub invariant-loop-item : goal.invariant-loop-item
invariant-loop-item l = Finding l.set l.name l.place

abbrev pub decreases-loop-item : goal.decreases-loop-item
decreases-loop-item l = length l.set - l.place

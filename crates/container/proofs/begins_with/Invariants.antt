-- `container::begins_with` meets its contract: the loop keeps that the first j bytes are the same. Assumes nothing.
use Rattle.container.proofs.Finding.{Comparing}
use Rattle.container.proofs.begins_with.Given as goal

abbrev pub invariant-loop-j : goal.invariant-loop-j
invariant-loop-j l = Comparing l.set l.place l.name l.j

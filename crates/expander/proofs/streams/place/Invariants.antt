-- `expander::streams::place` meets its contract: the loop keeps where each stream goes on and what stands of it. Assumes nothing.
use Rattle.rules.proofs.Base.{take}
use Rattle.expander.proofs.Placing.{Placing}
use Rattle.expander.proofs.streams.place.Given as goal

abbrev pub invariant-loop-k : goal.invariant-loop-k
invariant-loop-k l = Placing (take l.used l.owners) (take l.used l.bytes) l.next l.dst l.k

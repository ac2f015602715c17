-- `expander::buckets::begin` meets its contract: the loop keeps that the words of the buckets so far have the numbers of the predefined names. Assumes nothing.
use Rattle.expander.proofs.Chains.{Fresh}
use Rattle.expander.proofs.buckets.begin.Given as goal

abbrev pub invariant-loop-b : goal.invariant-loop-b
invariant-loop-b l = Fresh l.ends l.b

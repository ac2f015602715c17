-- `expander::buckets::begin` meets its contract: the loop keeps that the words of the buckets so far have the numbers of the predefined names. Assumes nothing.
use Rattle.rules.proofs.Base.{arith}
use Rattle.expander.proofs.Chains.{chained_fresh}
use Rattle.expander.proofs.buckets.begin.Goals as goal

pub returns : goal.returns
returns c = chained_fresh c.loop-b.invariant (omega arith)

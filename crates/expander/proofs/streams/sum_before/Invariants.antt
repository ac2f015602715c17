-- `expander::streams::sum_before` meets its contract: the loop keeps the sums before a place and the numbers from it on. Assumes nothing.
use Rattle.expander.proofs.Placing.{Summing}
use Rattle.expander.proofs.streams.sum_before.Given as goal

abbrev pub invariant-loop-n : goal.invariant-loop-n
invariant-loop-n l = Summing l.fn.numbers l.n-items l.sum l.n-index

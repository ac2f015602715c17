-- `expander::streams::tally` meets its contract: the loop keeps what each stream was given and what is left. Assumes nothing.
use Rattle.expander.proofs.Placing.{Tallying}
use Rattle.expander.proofs.streams.tally.Given as goal

abbrev pub invariant-loop-o : goal.invariant-loop-o
invariant-loop-o l = Tallying l.used l.owners l.counts l.o-index

-- `expander::meanings::close_up` meets its contract: each turn moves one byte down. Assumes nothing.
use Rattle.expander.proofs.MeaningLaws.{Closing}
use Rattle.expander.proofs.meanings.close_up.Given as goal

abbrev pub invariant-loop-j : goal.invariant-loop-j
invariant-loop-j l = Closing l.initial.ends l.i l.j l.ends

-- `matching::translit` meets its contract: the loop keeps that what is written and what is left make the whole text. Assumes nothing.
use Rattle.matching.proofs.Replacing.{Writing}
use Rattle.matching.proofs.translit.Given as goal

abbrev pub invariant-loop-b : goal.invariant-loop-b
invariant-loop-b l = Writing l.table l.s l.initial.out l.out l.j l.b-index

-- `lines::build` meets its contract: the loop keeps that the first k words and totals stand and what is lent behind them is as it was. Assumes
-- nothing.
use Rattle.lines.proofs.Built.{Building}
use Rattle.lines.proofs.build.Given as goal

abbrev pub invariant-loop-k : goal.invariant-loop-k
invariant-loop-k l = Building l.text l.initial.words l.initial.totals l.words l.totals l.total l.k

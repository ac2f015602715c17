-- `expander::meanings::close_up` meets its contract: each turn moves one byte down. Assumes nothing.
use Rattle.rules.proofs.Base.{arith}
use Rattle.expander.proofs.MeaningLaws.{closing_on, closing_ends}
use Rattle.expander.proofs.meanings.close_up.Goals as goal

pub loop-j-preserved : goal.loop-j-preserved
loop-j-preserved c = closing_on c.loop-j.invariant (omega arith) c.number_at-number.ensures c.put.ensures

pub returns : goal.returns
returns c = closing_ends c.loop-j.invariant (omega arith) (omega arith)

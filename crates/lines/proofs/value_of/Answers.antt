-- `lines::value_of` meets its contract. Assumes nothing.
use Rattle.rules.proofs.Base.{rules}
use Rattle.rules.specs.Lines.{index_value_by}
use Rattle.lines.proofs.value_of.Goals as goal

pub returns-in-Ok : goal.returns-in-Ok
unfolding index_value_by
returns-in-Ok g c = search rules

pub returns-in-Err : goal.returns-in-Err
unfolding index_value_by
returns-in-Err g c = search rules

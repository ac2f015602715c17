-- `lines::number_of` meets its contract. Assumes nothing.
use Rattle.rules.proofs.Base.{rules}
use Rattle.rules.specs.Lines.{index_number}
use Rattle.lines.proofs.number_of.Goals as goal

pub returns : goal.returns
unfolding index_number
returns g c = search rules

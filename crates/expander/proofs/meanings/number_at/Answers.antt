-- `expander::meanings::number_at` meets its contract. Assumes nothing.
use Rattle.expander.specs.Meanings.{number_at}
use Rattle.expander.proofs.meanings.number_at.Goals as goal

pub returns : goal.returns
unfolding number_at
returns c = c.get.ensures.0

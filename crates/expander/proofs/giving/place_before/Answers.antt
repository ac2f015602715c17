-- `expander::giving::place_before` meets its contract. Assumes nothing.
use Rattle.rules.proofs.Base.{rules}
use Rattle.expander.specs.Giving.{place_before}
use Rattle.expander.proofs.giving.place_before.Goals as goal

pub returns : goal.returns
unfolding place_before
returns c = search rules

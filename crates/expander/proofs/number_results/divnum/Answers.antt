-- `expander::number_results::divnum` meets its contract. Assumes nothing.
use Rattle.rules.proofs.Base.{rules}
use Rattle.rules.specs.Results.{divnum_result}
use Rattle.expander.specs.Results.{answered}
use Rattle.expander.proofs.number_results.divnum.Goals as goal

pub returns : goal.returns
unfolding divnum_result answered
returns c = search rules

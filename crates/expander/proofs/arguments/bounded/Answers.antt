-- `expander::arguments::bounded` meets its contract. Assumes nothing.
use Rattle.rules.proofs.Base.{rules}
use Rattle.rules.specs.Arguments.{bounded}
use Rattle.expander.proofs.arguments.bounded.Goals as goal

pub returns-in_err-number : goal.returns-in_err-number
unfolding bounded
returns-in_err-number c = search rules

pub returns-in_err-n : goal.returns-in_err-n
unfolding bounded
returns-in_err-n c = search rules

pub returns-then-n-high : goal.returns-then-n-high
unfolding bounded
returns-then-n-high c = search rules

pub returns-else-low-n : goal.returns-else-low-n
unfolding bounded
returns-else-low-n c = search rules

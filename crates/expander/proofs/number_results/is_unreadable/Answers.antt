-- `expander::number_results::is_unreadable` meets its contract. Assumes nothing.
use Rattle.rules.proofs.Base.{rules}
use Rattle.rules.specs.Results.{is_unreadable}
use Rattle.expander.proofs.number_results.is_unreadable.Goals as goal

pub returns-in-Err-Unreadable : goal.returns-in-Err-Unreadable
unfolding is_unreadable
returns-in-Err-Unreadable c = search rules

pub returns-in_default : goal.returns-in_default
unfolding is_unreadable
returns-in_default c = search rules

pub returns-in_default-2 : goal.returns-in_default-2
unfolding is_unreadable
returns-in_default-2 c = search rules

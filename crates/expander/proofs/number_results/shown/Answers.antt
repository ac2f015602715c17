-- `expander::number_results::shown` meets its contract. Assumes nothing.
use Rattle.rules.proofs.Base.{rules}
use Rattle.rules.specs.Answers.{fault_answer}
use Rattle.rules.specs.Results.{shown_result}
use Rattle.expander.specs.Results.{answered, number_text}
use Rattle.expander.proofs.number_results.shown.Goals as goal

pub returns-in-Ok : goal.returns-in-Ok
unfolding shown_result answered number_text
returns-in-Ok c = search rules

pub returns-in-Err-Unreadable : goal.returns-in-Err-Unreadable
unfolding shown_result answered number_text fault_answer
returns-in-Err-Unreadable c = search rules

pub returns-in-Err-Divisor : goal.returns-in-Err-Divisor
unfolding shown_result answered number_text fault_answer
returns-in-Err-Divisor c = search rules

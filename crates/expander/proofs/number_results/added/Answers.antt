-- `expander::number_results::added` meets its contract. Assumes nothing.
use Rattle.rules.proofs.Base.{rules}
use Rattle.rules.specs.Answers.{fault_answer}
use Rattle.rules.specs.Results.{changed_number, is_number}
use Rattle.expander.specs.Results.{answered, number_text}
use Rattle.expander.proofs.number_results.added.Goals as goal

pub returns-in_err-n : goal.returns-in_err-n
unfolding changed_number answered number_text fault_answer
returns-in_err-n c = search rules

pub returns-in_err-sum : goal.returns-in_err-sum
unfolding changed_number answered number_text fault_answer is_number
returns-in_err-sum c = search rules

pub returns : goal.returns
unfolding changed_number answered number_text is_number
returns c = search rules

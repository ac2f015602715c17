-- `expander::calls::first_string` meets its contract. Assumes nothing.
use Rattle.rules.proofs.Base.{◌∙◌}
use Rattle.expander.proofs.CallsLaws.{top_first}
use Rattle.expander.proofs.calls.first_string.Goals as goal

pub returns : goal.returns
returns c = λ bytes ends x xs m. c.word.ensures ∙ top_first m

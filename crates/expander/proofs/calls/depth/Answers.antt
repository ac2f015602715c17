-- `expander::calls::depth` meets its contract. Assumes nothing.
use Rattle.rules.proofs.Base.{◌∙◌}
use Rattle.expander.proofs.CallsLaws.{top_depth}
use Rattle.expander.proofs.calls.depth.Goals as goal

pub returns : goal.returns
returns c = λ bytes ends x xs m. c.word.ensures ∙ top_depth m

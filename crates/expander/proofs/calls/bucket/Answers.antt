-- `expander::calls::bucket` meets its contract. Assumes nothing.
use Rattle.rules.proofs.Base.{◌∙◌}
use Rattle.expander.proofs.CallsLaws.{top_bucket}
use Rattle.expander.proofs.calls.bucket.Goals as goal

pub returns : goal.returns
returns c = λ bytes ends x xs m. c.word.ensures ∙ top_bucket m

-- `expander::part_results::alike` meets its contract. Assumes nothing.
use Rattle.rules.proofs.Base.{◌∙◌}
use Rattle.expander.proofs.Packing.{same_of}
use Rattle.expander.proofs.part_results.alike.Goals as goal

pub returns : goal.returns
returns c = c.same.ensures ∙ same_of c.argument-left.ensures c.argument-right.ensures

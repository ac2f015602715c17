-- `expander::marks::single` meets its contract. Assumes nothing.
use Rattle.rules.proofs.Base.{refl}
use Rattle.rules.specs.Marks.{mark_text}
use Rattle.expander.proofs.marks.single.Goals as goal

pub returns : goal.returns
unfolding mark_text
returns c = (refl, refl)

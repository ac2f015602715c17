-- `expander::marks::mark_of` meets its contract. Assumes nothing.
use Rattle.rules.proofs.Base.{refl}
use Rattle.expander.proofs.MarkTests.{made}
use Rattle.expander.proofs.marks.mark_of.Goals as goal

pub returns : goal.returns
returns c = (rw c.copy.ensures (made c.args.w.now _), refl)

-- `expander::buckets::head_at` meets its contract: the lower bits of a word are read. Assumes nothing.
use Rattle.rules.proofs.Base.{refl}
use Rattle.expander.specs.Buckets.{head_at}
use Rattle.expander.proofs.buckets.head_at.Goals as goal

pub returns : goal.returns
unfolding head_at
returns c = refl

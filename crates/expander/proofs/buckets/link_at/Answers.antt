-- `expander::buckets::link_at` meets its contract. Assumes nothing.
use Rattle.expander.specs.Buckets.{link_at}
use Rattle.expander.proofs.buckets.link_at.Goals as goal

pub returns : goal.returns
unfolding link_at
returns c = c.get.ensures.0

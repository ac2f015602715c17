-- `expander::buckets::put_link` meets its contract. Assumes nothing.
use Rattle.expander.proofs.Chains.{linked_is}
use Rattle.expander.proofs.buckets.put_link.Goals as goal

pub returns : goal.returns
returns c = linked_is c.args.i c.requires.1 c.put.ensures

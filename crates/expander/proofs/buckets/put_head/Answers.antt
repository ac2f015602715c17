-- `expander::buckets::put_head` meets its contract: the lower bits of a word are exchanged. Assumes nothing.
use Rattle.rules.proofs.Base.{arith}
use Rattle.expander.proofs.Chains.{headed_at}
use Rattle.expander.proofs.buckets.put_head.Goals as goal

pub returns : goal.returns
returns c = let a = c.args in headed_at a.ends.now a.bucket a.head c.requires.2 (omega (arith, c.requires.0, c.requires.1))

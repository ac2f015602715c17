-- `expander::packed::start` meets its contract. Assumes nothing.
use Rattle.expander.proofs.Packing.{start_none, start_before}
use Rattle.expander.proofs.packed.start.Goals as goal

pub returns-then-k-eq0 : goal.returns-then-k-eq0
returns-then-k-eq0 c = start_none c.args.ends.now c.args.k c.if-k-eq0.true

pub returns : goal.returns
returns c = start_before c.args.ends.now c.args.k c.if-k-eq0.false

-- `expander::streams::of_stream` meets its contract. Assumes nothing.
use Rattle.rules.proofs.Base.{sym, rules}
use Rattle.expander.proofs.OwnedBytes.{mine_counted, other_counted}
use Rattle.expander.proofs.streams.of_stream.Goals as goal

pub returns-then-o-i : goal.returns-then-o-i
returns-then-o-i c = (sym (mine_counted c.if-o-i.true), search rules)

pub returns-else-o-i : goal.returns-else-o-i
returns-else-o-i c = (sym (other_counted c.if-o-i.false), search rules)

-- `expander::machine::Machine::without_comments` meets its contract: the begin mark has no bytes. Assumes nothing.
use Rattle.rules.proofs.Base.{arith}
use Rattle.rules.specs.Marks.{mark_text}
use Rattle.expander.proofs.machine.Machine.without_comments.Goals as goal

pub returns : goal.returns
unfolding mark_text
returns c =
    let e = c.with_comments.ensures in
    (e.0, e.1, λ g. e.2 g (omega arith) g.end_comment)

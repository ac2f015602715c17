-- `expander::calls::Calls::collected` meets its contract. Assumes nothing.
use Rattle.expander.proofs.CallsLaws.{calls_collected, some_strings}
use Rattle.rules.proofs.Base.{arith}
use Rattle.expander.proofs.calls.Calls.collected.Goals as goal

pub returns : goal.returns
returns c = λ bytes after w x xs m e f h. calls_collected m c.requires.0.links.stack_long w after _ _ e f h

pub overflow_sub-ends : goal.overflow_sub-ends
overflow_sub-ends c = omega (arith, some_strings c.requires.0.are, c.requires.1)

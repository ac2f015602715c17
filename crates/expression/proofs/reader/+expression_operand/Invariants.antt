-- The readers `reader::operand` and `reader::expression`, which call each other, meet their contracts: the bytes that remain fall. Assumes nothing.
use Rattle.rules.proofs.Base.{◌≤◌, ◌+◌, ◌-◌, ◌*◌, ◌≡◌, length}
use Rattle.expression.proofs.Chains.{expression_of, chain_of}
use Rattle.expression.proofs.reader.+expression_operand.Given as goal

abbrev pub decreases-expression : goal.decreases-expression
decreases-expression l = 2 * length l.s.now + 1

abbrev pub decreases-operand : goal.decreases-operand
decreases-operand l = 2 * length l.s.now

abbrev pub invariant-expression-loop-o : goal.invariant-expression-loop-o
invariant-expression-loop-o l = (l.read.end ≤ length l.s) × (expression_of l.s l.level l.left ≡ chain_of l.s l.level l.left l.read)

abbrev pub decreases-expression-loop-o : goal.decreases-expression-loop-o
decreases-expression-loop-o l = length l.s - l.read.end

-- `expander::streams::sum_before` meets its contract: the loop keeps the sums before a place and the numbers from it on. Assumes nothing.
use Rattle.rules.proofs.Base.{arith}
use Rattle.expander.proofs.Placing.{sums_none, sums_on, sums_within, sums_end}
use Rattle.expander.proofs.streams.sum_before.Goals as goal

pub overflow_add-sum : goal.overflow_add-sum
overflow_add-sum c =
    let l = c.loop-n in
    omega (arith, sums_within c.args.numbers.now l.n-items l.sum l.n-index l.invariant (omega arith))

pub loop-n-preserved : goal.loop-n-preserved
loop-n-preserved c =
    let l = c.loop-n in
    sums_on c.args.numbers.now l.n-items l.sum l.n-index l.invariant (omega arith)

pub returns : goal.returns
returns c =
    let l = c.loop-n in
    sums_end c.args.numbers.now l.n-items l.sum l.n-index l.invariant (omega arith)

pub loop-n-init : goal.loop-n-init
loop-n-init c = sums_none c.args.numbers.now c.requires.0

-- `matching::borders::search` meets its contract: the loop keeps that the first k bytes of the needle end at i, and that it stands nowhere before.
-- Assumes nothing.
use Rattle.rules.proofs.Base.{sym, arith}
use Rattle.matching.proofs.Tracking.{search_start, search_reach, search_lost, search_on, search_found}
use Rattle.matching.proofs.borders.search.Goals as goal

pub returns-then-k-needle : goal.returns-then-k-needle
returns-then-k-needle c = sym (search_found c.loop-i.invariant c.loop-i-test.true c.go_on-k.ensures c.if-k-needle.true)

pub loop-i-preserved : goal.loop-i-preserved
loop-i-preserved c = search_on c.loop-i.invariant c.loop-i-test.true c.go_on-k.ensures c.if-k-needle.false

pub returns : goal.returns
returns c = sym (search_lost c.loop-i.invariant (omega arith))

pub loop-i-init : goal.loop-i-init
loop-i-init c = search_start c.args.needle.now c.args.text.now c.requires.0

pub overflow_sub-result : goal.overflow_sub-result
overflow_sub-result c = omega (arith, search_reach c.loop-i.invariant c.loop-i-test.true c.go_on-k.ensures)

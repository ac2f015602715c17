-- `matching::borders::go_on` meets its contract: the loop goes back from border to border, and keeps that no longer one goes on with x.
-- Each is shorter than the one before. Assumes nothing.
use Rattle.rules.proofs.Base.{arith}
use Rattle.matching.proofs.Tracking.{fall_start, fall_border, fall_on, fall_none, fall_back}
use Rattle.matching.proofs.borders.go_on.Goals as goal

pub loop-k-init : goal.loop-k-init
loop-k-init c = fall_start c.args.needle.now c.args.x c.args.matched

pub loop-k-preserved : goal.loop-k-preserved
loop-k-preserved c =
    let w = c.loop-k.invariant in
    fall_back w c.loop-k-test.true (fall_border w c.requires.2 (omega arith))

pub loop-k-smaller : goal.loop-k-smaller
loop-k-smaller c = omega (arith, (fall_border c.loop-k.invariant c.requires.2 (omega arith)).shorter)

pub returns-then-k-eq0 : goal.returns-then-k-eq0
returns-then-k-eq0 c = fall_none c.loop-k.invariant c.loop-k-test.true c.if-k-eq0.true

pub returns : goal.returns
returns c = fall_on c.loop-k.invariant c.loop-k-test.false

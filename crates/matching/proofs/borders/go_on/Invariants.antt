-- `matching::borders::go_on` meets its contract: the loop goes back from border to border, and keeps that no longer one goes on with x.
-- Each is shorter than the one before. Assumes nothing.
use Rattle.matching.proofs.Tracking.{Falling}
use Rattle.matching.proofs.borders.go_on.Given as goal

abbrev pub invariant-loop-k : goal.invariant-loop-k
invariant-loop-k l = Falling l.needle l.x l.matched l.k

abbrev pub decreases-loop-k : goal.decreases-loop-k
decreases-loop-k l = l.k

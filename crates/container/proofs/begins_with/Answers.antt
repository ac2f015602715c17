-- `container::begins_with` meets its contract: the loop keeps that the first j bytes are the same. Assumes nothing.
use Rattle.rules.proofs.Base.{arith, refl}
use Rattle.container.proofs.Finding.{compare_all, compare_inside, compare_on, compare_not}
use Rattle.container.proofs.begins_with.Goals as goal

pub overflow_add-place : goal.overflow_add-place
overflow_add-place c = omega (arith, compare_inside c.loop-j.invariant c.loop-j-test.true refl)

pub place_of-requires : goal.place_of-requires
place_of-requires c = omega (arith, compare_inside c.loop-j.invariant c.loop-j-test.true refl)

pub bounds-set-place_of : goal.bounds-set-place_of
bounds-set-place_of c = compare_inside c.loop-j.invariant c.loop-j-test.true c.place_of.ensures

pub returns-then-set-place_of : goal.returns-then-set-place_of
returns-then-set-place_of c = compare_not c.loop-j.invariant c.loop-j-test.true c.place_of.ensures c.if-set-place_of.true

pub loop-j-preserved : goal.loop-j-preserved
loop-j-preserved c = compare_on c.loop-j.invariant c.loop-j-test.true c.place_of.ensures c.if-set-place_of.false

pub returns : goal.returns
returns c = compare_all c.loop-j.invariant c.loop-j-test.false

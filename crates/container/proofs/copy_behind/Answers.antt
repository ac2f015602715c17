-- `container::copy_behind` meets its contract: the loop keeps that k bytes are copied. Assumes nothing.
use Rattle.rules.proofs.Base.{refl, arith}
use Rattle.container.proofs.Copying.{copy_inside, copy_on}
use Rattle.container.proofs.copy_behind.Goals as goal

pub loop-k-preserved : goal.loop-k-preserved
loop-k-preserved c = copy_on c.loop-k.invariant c.loop-k-test.true c.min-n.ensures c.place_of-from.ensures c.copy_run.ensures

pub overflow_add-j : goal.overflow_add-j
overflow_add-j c = omega (arith, copy_inside c.loop-k.invariant c.loop-k-test.true refl refl)

pub overflow_add-place : goal.overflow_add-place
overflow_add-place c = omega (arith, copy_inside c.loop-k.invariant c.loop-k-test.true c.min-n.ensures refl)

pub place_of-from-requires : goal.place_of-from-requires
place_of-from-requires c = omega (arith, copy_inside c.loop-k.invariant c.loop-k-test.true c.min-n.ensures refl)

pub copy_run-requires : goal.copy_run-requires
copy_run-requires c = record { n_in_bounds = copy_inside c.loop-k.invariant c.loop-k-test.true c.min-n.ensures c.place_of-from.ensures; n_in_bounds_2 = omega (arith, c.loop-k.invariant.long) }

-- `container::chunks::copy_run` meets its contract: the loop keeps that i bytes are copied. Assumes nothing.
use Rattle.rules.proofs.Base.{refl, arith, drop, paste-zero}
use Rattle.container.proofs.Copying.{run_on, run_done}
use Rattle.container.proofs.chunks.copy_run.Goals as goal

pub returns : goal.returns
returns c = run_done c.loop-i.invariant c.loop-i-test.false

pub loop-i-init : goal.loop-i-init
loop-i-init c = record { within = omega arith; long = refl; is = paste-zero c.args.into.now c.args.to (drop c.args.from c.args.w.now) }

pub loop-i-preserved : goal.loop-i-preserved
loop-i-preserved c = run_on c.loop-i.invariant c.requires.n_in_bounds c.requires.n_in_bounds_2 c.loop-i-test.true

pub shape_of-into : goal.shape_of-into
shape_of-into c = c.loop-i.invariant.long

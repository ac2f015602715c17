-- `container::chunks::copy_run` meets its contract: the loop keeps that i bytes are copied. Assumes nothing.
use Rattle.container.proofs.Copying.{Running}
use Rattle.container.proofs.chunks.copy_run.Given as goal

abbrev pub invariant-loop-i : goal.invariant-loop-i
invariant-loop-i l = Running l.w l.from l.initial.into l.to l.n l.into l.i

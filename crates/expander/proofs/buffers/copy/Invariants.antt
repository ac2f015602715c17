-- `expander::buffers::copy` meets its contract: the loop keeps that i bytes are copied over the first i. Assumes nothing.
use Rattle.rules.proofs.Base.{◌≡◌, ◌++◌, length, drop, take}
use Rattle.expander.proofs.buffers.copy.Given as goal

abbrev pub invariant-loop-i : goal.invariant-loop-i
invariant-loop-i l = (length l.into ≡ length l.initial.into) × (l.into ≡ take l.i l.from ++ drop l.i l.initial.into)

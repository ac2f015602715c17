-- `expander::streams::compact` meets its contract: the loop keeps what is kept and what is left, of bytes and owners. Assumes nothing.
use Rattle.rules.proofs.Base.{◌≤◌, take}
use Rattle.expander.proofs.Passes.{Closing}
use Rattle.expander.proofs.streams.compact.Given as goal

abbrev pub invariant-loop-k : goal.invariant-loop-k
invariant-loop-k l = (l.n ≤ l.k) × Closing l.i (take l.used l.initial.owners) l.initial.bytes l.bytes l.used l.n l.k × Closing l.i (take l.used l.initial.owners) l.initial.owners l.owners l.used l.n l.k

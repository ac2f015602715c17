-- `expander::streams::extract` meets its contract: the loop keeps what is taken out and what is left. Assumes nothing.
use Rattle.rules.proofs.Base.{◌≤◌, ◌-◌, ◌≡◌, length, take}
use Rattle.expander.proofs.Passes.{Extracting}
use Rattle.expander.proofs.streams.extract.Given as goal

abbrev pub invariant-loop-n : goal.invariant-loop-n
invariant-loop-n l = (l.k ≤ l.used) × (l.n ≤ l.k) × (length l.dst ≡ length l.initial.dst) × Extracting l.i (take l.used l.owners) (take l.used l.bytes) l.dst l.n l.k

abbrev pub decreases-loop-n : goal.decreases-loop-n
decreases-loop-n l = l.used - l.k

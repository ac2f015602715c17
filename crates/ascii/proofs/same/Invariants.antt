-- `ascii::same` meets its contract: the loop keeps that the rests are the same just where the wholes are. Assumes nothing.
use Rattle.rules.proofs.Base.{◌≡◌, drop}
use Rattle.rules.specs.Bytes.{same_bytes}
use Rattle.ascii.proofs.same.Given as goal

abbrev pub invariant-loop-i : goal.invariant-loop-i
invariant-loop-i l = same_bytes (drop l.i l.a) (drop l.i l.b) ≡ same_bytes l.a l.b

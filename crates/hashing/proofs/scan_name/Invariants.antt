-- `hashing::scan_name` meets its contract: the loop keeps that what a scan from the place i on finds is what is asked for. Assumes nothing.
use Rattle.rules.proofs.Base.{◌≤◌, length}
use Rattle.std.specs.Prelude.{max}
use Rattle.hashing.specs.declared.Scanned.{Scanned}
use Rattle.hashing.specs.Hashing.{ScannedFrom}
use Rattle.hashing.proofs.scan_name.Given as goal

abbrev pub invariant-loop-i : goal.invariant-loop-i
invariant-loop-i l = ((r : Scanned) → ScannedFrom l.s l.i l.h r → ScannedFrom l.s l.from l.hash r) × (l.i ≤ max l.from (length l.s))

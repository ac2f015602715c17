-- `sheet::read` meets its contract: the loop keeps that the lines before the place were read. Assumes nothing.
use Rattle.rules.proofs.Base.{◌+◌, ◌-◌, length}
use Rattle.sheet.proofs.SheetLaws.{Upto}
use Rattle.sheet.proofs.read.Given as goal

abbrev pub invariant-loop-place : goal.invariant-loop-place
invariant-loop-place l = Upto l.text l.sheet.lines l.sheet.count l.place

abbrev pub decreases-loop-place : goal.decreases-loop-place
decreases-loop-place l = length l.text + 1 - l.place

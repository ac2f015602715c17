-- `expander::source::plain_length` meets its contract: the loop keeps that what was passed belongs to the count. Assumes nothing.
use Rattle.rules.proofs.Base.{◌+◌, ◌≡◌, drop}
use Rattle.expander.specs.Ahead.{plain_length}
use Rattle.expander.proofs.source.plain_length.Given as goal

abbrev pub invariant-loop-i : goal.invariant-loop-i
invariant-loop-i l = l.i + plain_length l.a l.b (drop l.i l.s) ≡ plain_length l.a l.b l.s

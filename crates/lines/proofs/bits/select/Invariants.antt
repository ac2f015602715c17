-- `lines::bits::select` meets its contract: the loop keeps which bit is sought. Assumes nothing.
use Rattle.rules.proofs.Base.{◌-◌}
use Rattle.lines.proofs.WordLaws.{Clearing}
use Rattle.lines.proofs.bits.select.Given as goal

abbrev pub invariant-loop-turn : goal.invariant-loop-turn
invariant-loop-turn l = Clearing l.word l.before l.rest (l.before - l.turn)

-- `expander::substitution::substituted_length` meets its contract: the loop keeps that what is counted and the length of what comes behind are the whole's. Assumes nothing.
use Rattle.rules.proofs.Base.{◌≤◌, ◌+◌, ◌-◌, ◌*◌, ◌≡◌, length, drop}
use Rattle.rules.specs.Marks.{mark_texts}
use Rattle.rules.specs.Arguments.{substituted}
use Rattle.expander.specs.Limits.{most_lent}
use Rattle.expander.specs.Arguments.{args_of}
use Rattle.expander.proofs.substitution.substituted_length.Given as goal

abbrev pub invariant-loop-i : goal.invariant-loop-i
invariant-loop-i l = (l.i ≤ length l.body)
    × (l.total ≤ 2 * most_lent * l.i)
    × (l.total + length (substituted l.name (args_of l.x) (mark_texts l.marks) (drop l.i l.body)) ≡ length (substituted l.name (args_of l.x) (mark_texts l.marks) l.body))

abbrev pub decreases-loop-i : goal.decreases-loop-i
decreases-loop-i l = length l.body - l.i

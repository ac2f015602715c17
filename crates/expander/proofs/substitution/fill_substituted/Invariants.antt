-- `expander::substitution::fill_substituted` meets its contract: the loop keeps that what is written and what comes behind are the whole. Assumes nothing.
use Rattle.rules.proofs.Base.{◌≤◌, ◌-◌, ◌≡◌, length}
use Rattle.rules.specs.Marks.{mark_texts}
use Rattle.expander.specs.Arguments.{args_of}
use Rattle.expander.proofs.SubstitutionLaws.{Filling}
use Rattle.expander.proofs.substitution.fill_substituted.Given as goal

abbrev pub invariant-loop-i : goal.invariant-loop-i
invariant-loop-i l = (l.i ≤ length l.body)
    × (length l.dst ≡ length l.initial.dst)
    × Filling l.name (args_of l.x) (mark_texts l.marks) l.body l.i l.dst l.at

abbrev pub decreases-loop-i : goal.decreases-loop-i
decreases-loop-i l = length l.body - l.i

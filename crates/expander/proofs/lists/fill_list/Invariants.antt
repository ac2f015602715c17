-- `expander::lists::fill_list` meets its contract: the loop keeps that what is left of the list follows. Assumes nothing.
use Rattle.rules.specs.Marks.{mark_texts}
use Rattle.expander.specs.Arguments.{args_of}
use Rattle.expander.proofs.ListLaws.{left_from, Writing}
use Rattle.expander.proofs.lists.fill_list.Given as goal

abbrev pub invariant-loop-k : goal.invariant-loop-k
invariant-loop-k l = Writing l.initial.dst l.initial.to (left_from (mark_texts l.marks) l.gap l.initial.k (args_of l.x)) l.dst l.to (left_from (mark_texts l.marks) l.gap l.k (args_of l.x))

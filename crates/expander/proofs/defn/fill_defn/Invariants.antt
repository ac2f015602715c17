-- `expander::defn::fill_defn` meets its contract: the loop keeps that what is written stands in front of the rest's result. Assumes nothing.
use Rattle.rules.proofs.Base.{◌≡◌, length}
use Rattle.rules.specs.Marks.{mark_texts}
use Rattle.rules.specs.Table.{Table}
use Rattle.expander.specs.Arguments.{args_of}
use Rattle.expander.specs.Table.{TableIn}
use Rattle.expander.proofs.DefnLaws.{Joining}
use Rattle.expander.proofs.defn.fill_defn.Given as goal

abbrev pub invariant-loop-k : goal.invariant-loop-k
invariant-loop-k l = (length l.dst ≡ length l.initial.dst)
    × ((u : Table) → TableIn l.definitions l.table_ends l.t.packed l.t.own u → Joining (mark_texts l.marks) u (args_of l.x) l.k l.dst l.at)

-- `expander::defn::defn_length` meets its contract: the loop keeps that the whole is longer than the rest by what is counted. Assumes nothing.
use Rattle.rules.proofs.Base.{◌≤◌, ◌*◌}
use Rattle.rules.specs.Marks.{mark_texts}
use Rattle.rules.specs.Table.{Table}
use Rattle.expander.specs.Arguments.{args_of}
use Rattle.expander.specs.Table.{TableIn}
use Rattle.expander.proofs.DefnLaws.{Measured}
use Rattle.expander.proofs.defn.defn_length.Given as goal

abbrev pub invariant-loop-k : goal.invariant-loop-k
invariant-loop-k l = (l.total ≤ 65546 * l.k)
    × ((u : Table) → TableIn l.definitions l.table_ends l.t.packed l.t.own u → Measured (mark_texts l.marks) u (args_of l.x) l.k l.total)

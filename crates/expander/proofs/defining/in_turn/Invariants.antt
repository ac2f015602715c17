-- `expander::defining::in_turn` meets its contract: the loop keeps what is left to do, for all tables that the buffers may hold. Assumes nothing.
use Rattle.rules.specs.Bytes.{Bytes}
use Rattle.rules.specs.Table.{Table}
use Rattle.expander.specs.Arguments.{args_of}
use Rattle.expander.specs.Table.{TableIn, Changes}
use Rattle.expander.proofs.DefiningLaws.{InTurn}
use Rattle.expander.proofs.defining.in_turn.Given as goal

abbrev pub invariant-loop-k : goal.invariant-loop-k
invariant-loop-k g l =
    (f : Bytes → Table → Table) → Changes (goal.F-post g l.change) f → (u : Table)
    → TableIn l.initial.definitions l.initial.table_ends l.initial.t.packed l.initial.t.own u → InTurn f (args_of l.x) u l.definitions l.table_ends l.t l.k

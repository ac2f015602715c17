-- `expander::diverting::names_streams` meets its contract: the loop keeps that the arguments left to try decide. Assumes nothing.
use Rattle.rules.proofs.Base.{◌≡◌, drop}
use Rattle.expander.specs.Arguments.{args_of}
use Rattle.expander.specs.Diverting.{all_named}
use Rattle.expander.proofs.diverting.names_streams.Given as goal

abbrev pub invariant-loop-k : goal.invariant-loop-k
invariant-loop-k l = all_named (drop l.k (args_of l.x)) ≡ all_named (args_of l.x)

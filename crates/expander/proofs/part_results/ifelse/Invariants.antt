-- `expander::part_results::ifelse` meets its contract. The loop's invariant: the arguments from k on give what all give. The measure is how many are
-- left. Assumes nothing.
use Rattle.rules.proofs.Base.{◌-◌}
use Rattle.expander.specs.Arguments.{args_of}
use Rattle.expander.proofs.PartResultLaws.{Choosing}
use Rattle.expander.proofs.part_results.ifelse.Given as goal

abbrev pub invariant-loop-k : goal.invariant-loop-k
invariant-loop-k l = Choosing (args_of l.x) l.k

abbrev pub decreases-loop-k : goal.decreases-loop-k
decreases-loop-k l = l.have - l.k

-- `expander::packed::rebase` meets its contract: a turn writes one more of the ends that move. Assumes nothing.
use Rattle.rules.proofs.Base.{map, drop, take}
use Rattle.expander.specs.Packed.{rebased}
use Rattle.expander.proofs.Overwriting.{Fronted}
use Rattle.expander.proofs.packed.rebase.Given as goal

abbrev pub invariant-loop-j : goal.invariant-loop-j
invariant-loop-j l = Fronted l.initial.ends l.to (map (rebased l.less l.more) (drop l.from (take l.count l.initial.ends))) l.j l.ends

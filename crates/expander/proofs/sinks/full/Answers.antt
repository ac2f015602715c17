-- `expander::sinks::full` meets its contract. Assumes nothing.
use Rattle.std.proofs.lemmas.Int.{ints}
use Rattle.rules.proofs.Base.{◌∙◌, arith}
use Rattle.expander.proofs.SinksLaws.{waits, below_lost, above_lost, full_to_output, full_to_stream, free_lost}
use Rattle.expander.proofs.sinks.full.Goals as goal

pub returns-in-0 : goal.returns-in-0
returns-in-0 c = c.then_some.ensures ∙ full_to_output _ _ _ _ (omega (arith, ints))

pub returns-in-1-to-9 : goal.returns-in-1-to-9
returns-in-1-to-9 c = c.then_some-in-1-to-9.ensures ∙ full_to_stream _ _ _ _ _ (waits c.args.sinks.current (omega (arith, ints)) (omega (arith, ints)))

pub returns-in_default : goal.returns-in_default
returns-in_default c = free_lost _ _ _ _ (below_lost c.args.sinks.current (omega (arith, ints)))

pub returns-in_default-2 : goal.returns-in_default-2
returns-in_default-2 c = free_lost _ _ _ _ (above_lost c.args.sinks.current (omega (arith, ints)))

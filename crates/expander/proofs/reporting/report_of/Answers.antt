-- `expander::reporting::report_of` meets its contract. Assumes nothing.
use Rattle.expander.specs.Run.{finished_report, stopped_report}
use Rattle.expander.proofs.RunLaws.{halted_finished, halted_stopped}
use Rattle.expander.proofs.reporting.report_of.Goals as goal

pub returns-then-number_of-gt1 : goal.returns-then-number_of-gt1
unfolding stopped_report
returns-then-number_of-gt1 c = halted_stopped c.args.h c.number_of.ensures c.if-number_of-gt1.true

pub returns : goal.returns
unfolding finished_report
returns c = halted_finished c.args.h c.number_of.ensures c.if-number_of-gt1.false

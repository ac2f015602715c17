-- `expander::change_marks::end_mark` meets its contract, by the number of arguments. Assumes nothing.
use Rattle.rules.proofs.Base.{◌∙◌, sym}
use Rattle.expander.specs.Arguments.{args_of}
use Rattle.expander.proofs.ChangeMarksLaws.{second_only, second_given}
use Rattle.expander.proofs.change_marks.end_mark.Goals as goal

pub returns-then-count-eq1 : goal.returns-then-count-eq1
returns-then-count-eq1 c = second_only c.args.newline.now (args_of c.args.x) (sym c.count.ensures ∙ c.if-count-eq1.true)

pub returns : goal.returns
returns c = second_given c.args.newline.now (args_of c.args.x) (λ e. c.if-count-eq1.false (c.count.ensures ∙ e)) c.argument.ensures

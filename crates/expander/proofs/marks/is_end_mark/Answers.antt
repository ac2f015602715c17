-- `expander::marks::is_end_mark` meets its contract. Assumes nothing.
use Rattle.rules.proofs.Base.{◌∙◌, sym}
use Rattle.expander.proofs.MarkTests.{end_mark_is, end_mark_newline}
use Rattle.expander.proofs.marks.is_end_mark.Goals as goal

pub returns-then-is_mark : goal.returns-then-is_mark
returns-then-is_mark c = c.if-is_mark.true ∙ end_mark_is _ (sym c.is_mark.ensures ∙ c.if-is_mark.true)

pub returns-else-is_mark : goal.returns-else-is_mark
returns-else-is_mark c = c.same.ensures ∙ sym (end_mark_newline _ (sym c.is_mark.ensures ∙ c.if-is_mark.false))

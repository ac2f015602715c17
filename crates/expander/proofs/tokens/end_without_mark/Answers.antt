-- `expander::tokens::end_without_mark` meets its contract. Assumes nothing.
use Rattle.rules.proofs.Base.{◌∙◌, sym, arith}
use Rattle.rules.specs.Marks.{mark_text}
use Rattle.expander.proofs.Comments.{end_closes, end_leaves_open}
use Rattle.expander.proofs.tokens.end_without_mark.Goals as goal

pub returns-then-is_newline : goal.returns-then-is_newline
returns-then-is_newline c = let a = c.args in end_closes (mark_text a.end) a.ahead (sym c.is_newline.ensures ∙ c.if-is_newline.true)

pub returns : goal.returns
returns c = let a = c.args in end_leaves_open (mark_text a.end) a.ahead (sym c.is_newline.ensures ∙ c.if-is_newline.false)

pub overflow_add-beyond : goal.overflow_add-beyond
overflow_add-beyond c = omega arith

-- `expander::marks::is_mark` meets its contract. Assumes nothing.
use Rattle.rules.proofs.Base.{◌∙◌, sym, length, lt-leb}
use Rattle.expander.proofs.MarkTests.{mark_empty, mark_long, mark_tested}
use Rattle.expander.proofs.marks.is_mark.Goals as goal

pub returns-then-is_empty : goal.returns-then-is_empty
returns-then-is_empty c = mark_empty _ (sym c.is_empty.ensures ∙ c.if-is_empty.true)

pub returns-then-w-le5 : goal.returns-then-w-le5
returns-then-w-le5 c = c.none_barred.ensures ∙ sym (mark_tested _ (sym c.is_empty.ensures ∙ c.if-is_empty.false) c.if-w-le5.true)

pub returns-else-w-le5 : goal.returns-else-w-le5
returns-else-w-le5 c = lt-leb (length c.args.w.now) 5 c.if-w-le5.false ∙ mark_long _ c.if-w-le5.false

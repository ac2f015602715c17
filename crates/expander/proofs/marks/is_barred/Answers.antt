-- `expander::marks::is_barred` meets its contract. Assumes nothing.
use Rattle.rules.proofs.Base.{◌∙◌, sym, arith}
use Rattle.expander.proofs.MarkTests.{barred_by_name, barred_by_blank, barred_sign, not_barred}
use Rattle.expander.proofs.marks.is_barred.Goals as goal

pub returns-then-continues_name : goal.returns-then-continues_name
returns-then-continues_name c = barred_by_name _ (sym c.continues_name.ensures ∙ c.if-continues_name.true)

pub returns-then-is_blank : goal.returns-then-is_blank
returns-then-is_blank c = c.if-is_blank.true ∙ barred_by_blank _ (sym c.is_blank.ensures ∙ c.if-is_blank.true)

pub returns-in_default : goal.returns-in_default
returns-in_default c = not_barred _ (sym c.continues_name.ensures ∙ c.if-continues_name.false) (sym c.is_blank.ensures ∙ c.if-is_blank.false) (λ e. omega arith) (λ e. omega arith) (λ e. omega arith)

pub returns-in_default-2 : goal.returns-in_default-2
returns-in_default-2 c = not_barred _ (sym c.continues_name.ensures ∙ c.if-continues_name.false) (sym c.is_blank.ensures ∙ c.if-is_blank.false) (λ e. omega arith) (λ e. omega arith) (λ e. omega arith)

pub returns-in-40 : goal.returns-in-40
returns-in-40 c = barred_sign _ (sym c.continues_name.ensures ∙ c.if-continues_name.false) (sym c.is_blank.ensures ∙ c.if-is_blank.false) (λ p q. omega arith)

pub returns-in-40-2 : goal.returns-in-40-2
returns-in-40-2 c = barred_sign _ (sym c.continues_name.ensures ∙ c.if-continues_name.false) (sym c.is_blank.ensures ∙ c.if-is_blank.false) (λ p q. omega arith)

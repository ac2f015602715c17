-- `tokens::operator_at` meets its contract. Assumes nothing.
use Rattle.rules.proofs.Base.{◌∙◌, sym, arith}
use Rattle.expression.proofs.Scan.{operator_end}
use Rattle.expression.proofs.tokens.operator_at.Goals as goal

pub overflow_add-result : goal.overflow_add-result
overflow_add-result c =
    let p = c.past_blanks-p in
    omega (arith, operator_end c.args.s.now p.result _ _ c.byte_at.ensures c.byte_at-2.ensures c.args.at c.requires p.ensures.is (sym c.operator_of.ensures ∙ c.in_ok-o.was))

pub returns-clause-within : goal.returns-clause-within
returns-clause-within c =
    let p = c.past_blanks-p in
    let h = operator_end c.args.s.now p.result _ _ c.byte_at.ensures c.byte_at-2.ensures c.args.at c.requires p.ensures.is (sym c.operator_of.ensures ∙ c.in_ok-o.was) in
    (h.0, h.1, c.if-o-level.false, h.2)

-- `tokens::leading` meets its contract. Assumes nothing.
use Rattle.expression.proofs.Scan.{leading_end}
use Rattle.expression.proofs.tokens.leading.Goals as goal

pub returns-clause-within : goal.returns-clause-within
returns-clause-within c = leading_end c.args.s.now c.past_blanks-p.result _ _ c.byte_at.ensures c.byte_at-2.ensures c.past_blanks-p.ensures.is c.leading_of.ensures

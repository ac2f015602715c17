-- `literals::literal` meets its contract. Assumes nothing.
use Rattle.rules.proofs.Base.{◌∙◌, arith}
use Rattle.expression.proofs.Digits.{none_first, zero_first, other_first}
use Rattle.expression.proofs.literals.literal.Goals as goal

pub returns-in-empty : goal.returns-in-empty
returns-in-empty c = none_first c.args.token.now (omega arith)

pub returns-in-48 : goal.returns-in-48
returns-in-48 c = c.behind_zero.ensures ∙ zero_first c.args.token.now c.in-48.len_at_least (search arith)

pub returns-in_default : goal.returns-in_default
returns-in_default c = c.read_natural.ensures ∙ other_first c.args.token.now c.in_default.len_at_least (search arith)

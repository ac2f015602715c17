-- `literals::behind_zero` meets its contract. Assumes nothing.
use Rattle.rules.proofs.Base.{◌∙◌, ap, arith}
use Rattle.rules.specs.Numerals.{up_to}
use Rattle.rules.specs.Words.{largest_bits}
use Rattle.rules.specs.Expression.{is_x}
use Rattle.expression.proofs.Digits.{nothing_behind, x_behind, digit_behind}
use Rattle.expression.proofs.literals.behind_zero.Goals as goal

pub returns-in-empty : goal.returns-in-empty
returns-in-empty c = nothing_behind c.args.rest.now (omega arith)

pub returns-in-120 : goal.returns-in-120
unfolding is_x
returns-in-120 c = c.read_natural.ensures ∙ ap (up_to largest_bits) (x_behind c.args.rest.now c.in-120.len_at_least (grind arith))

pub returns-in_default : goal.returns-in_default
unfolding is_x
returns-in_default c = c.read_natural-in_default.ensures ∙ ap (up_to largest_bits) (digit_behind c.args.rest.now c.in_default.len_at_least (grind arith))

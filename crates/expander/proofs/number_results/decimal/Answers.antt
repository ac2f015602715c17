-- `expander::number_results::decimal` meets its contract. Assumes nothing.
use Rattle.rules.proofs.Base.{rules, refl}
use Rattle.numerals.specs.Answers.{is_radix}
use Rattle.rules.specs.Numerals.{decimal}
use Rattle.expander.specs.Results.{number_text}
use Rattle.expander.proofs.number_results.decimal.Goals as goal

pub invariant_of-result : goal.invariant_of-result
unfolding is_radix
invariant_of-result c = record { good_radix = refl }

pub returns : goal.returns
unfolding number_text decimal
returns c = search rules

-- `numerals::digit_count` meets its contract. Assumes nothing.
use Rattle.rules.proofs.Base.{rules}
use Rattle.numerals.proofs.Writing.{digits_counted}
use Rattle.numerals.proofs.digit_count.Goals as goal

pub returns-clause-is : goal.returns-clause-is
returns-clause-is c = digits_counted c.ilog.result c.args.radix c.args.v c.requires (search rules) (search rules)

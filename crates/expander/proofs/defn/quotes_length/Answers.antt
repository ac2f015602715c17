-- `expander::defn::quotes_length` meets its contract: the law `quoted_size`. Assumes nothing.
use Rattle.rules.proofs.Base.{arith, rules}
use Rattle.expander.proofs.ListLaws.{quotes_are, quoted_size}
use Rattle.expander.proofs.defn.quotes_length.Goals as goal

pub returns : goal.returns
returns c =
    (λ w. omega (arith, quoted_size (quotes_are c.args.marks (search rules) (search rules) c.requires) w), omega arith)

-- `expander::substitution::parameter_at` meets its contract: a byte that is not `$`, `$` and a byte behind it, or `$` as the last byte. Assumes nothing.
use Rattle.expander.proofs.SubstitutionLaws.{plain_at, dollar_last}
use Rattle.expander.proofs.substitution.parameter_at.Goals as goal

pub returns-then-x-ne36 : goal.returns-then-x-ne36
returns-then-x-ne36 c = plain_at _ _ c.requires c.if-x-ne36.true

pub returns : goal.returns
returns c =
    dollar_last c.args.body.now c.args.i c.requires c.if-j-body.false

-- `expander::tokens::mark_length` meets its contract. Assumes nothing.
use Rattle.rules.proofs.Base.{rules}
use Rattle.expander.proofs.MarkPlaces.{mark_length}
use Rattle.expander.proofs.tokens.mark_length.Goals as goal

pub returns : goal.returns
returns c = mark_length c.args.m (search rules) c.requires

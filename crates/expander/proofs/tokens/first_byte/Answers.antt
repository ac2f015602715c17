-- `expander::tokens::first_byte` meets its contract. Assumes nothing.
use Rattle.rules.proofs.Base.{rules}
use Rattle.expander.proofs.MarkPlaces.{mark_byte, full_mark}
use Rattle.expander.proofs.tokens.first_byte.Goals as goal

pub returns : goal.returns
returns c =
    let m = c.args.m in
    record { byte = mark_byte m 0 c.requires.least; full = full_mark m (search rules) c.requires }

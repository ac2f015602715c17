-- `expander::source::Position::advanced` meets its contract. Assumes nothing.
use Rattle.expander.proofs.SourceLaws.{taken_first, taken_past}
use Rattle.expander.proofs.source.Position.advanced.Goals as goal

pub returns-then-n-have : goal.returns-then-n-have
returns-then-n-have c = λ text x m h. taken_first m _ c.if-n-have.true

pub returns : goal.returns
returns c = λ text x m h. taken_past m _ c.if-n-have.false h

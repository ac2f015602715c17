-- `expander::source::Position::ahead` meets its contract. Assumes nothing.
use Rattle.rules.proofs.Base.{◌++◌, ap₂}
use Rattle.expander.proofs.Parts.{part_all}
use Rattle.expander.proofs.source.Position.ahead.Goals as goal

pub returns : goal.returns
returns c = let a = c.args in ap₂ ◌++◌ (part_all a.pending.now a.self.from) (part_all a.text.now a.self.taken)

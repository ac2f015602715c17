-- `expander::calls::Calls::opened` meets its contract. Assumes nothing.
use Rattle.expander.proofs.CallsLaws.{calls_opened}
use Rattle.expander.proofs.calls.Calls.opened.Goals as goal

pub returns : goal.returns
returns c = λ bytes after name cs m e b f. calls_opened c.requires.0.links.ends_long c.requires.0.links.stack_long name after _ _ m e b f c.requires.1 c.requires.2

-- `expander::calls::Calls::separated` meets its contract. Assumes nothing.
use Rattle.expander.proofs.CallsLaws.{calls_separated}
use Rattle.expander.proofs.calls.Calls.separated.Goals as goal

pub returns : goal.returns
returns c = λ bytes x xs m. calls_separated m c.requires.0.links.stack_long c.requires.0.links.ends_long c.requires.2

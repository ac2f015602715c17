-- `expander::argument_strings::Arguments::argument` meets its contract. Assumes nothing.
use Rattle.expander.proofs.ArgumentLaws.{held_in, argument_there, argument_absent}
use Rattle.expander.proofs.argument_strings.Arguments.argument.Goals as goal

pub returns-then-k-self : goal.returns-then-k-self
returns-then-k-self c = argument_there (held_in c.args.self) c.args.n c.requires.0 c.string.ensures

pub returns : goal.returns
returns c = argument_absent (held_in c.args.self) c.args.n c.if-k-self.false

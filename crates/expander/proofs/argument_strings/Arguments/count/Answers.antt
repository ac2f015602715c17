-- `expander::argument_strings::Arguments::count` meets its contract. Assumes nothing.
use Rattle.expander.proofs.ArgumentLaws.{held_in, arguments_counted}
use Rattle.expander.proofs.argument_strings.Arguments.count.Goals as goal

pub returns : goal.returns
returns c = arguments_counted (held_in c.args.self)

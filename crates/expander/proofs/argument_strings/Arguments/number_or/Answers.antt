-- `expander::argument_strings::Arguments::number_or` meets its contract. Assumes nothing.
use Rattle.rules.proofs.Base.{◌∙◌, sym, arith, rules}
use Rattle.expander.specs.Arguments.{args_of}
use Rattle.expander.proofs.ArgumentLaws.{or_absent, or_there}
use Rattle.expander.proofs.argument_strings.Arguments.number_or.Goals as goal

pub returns-then-count-n : goal.returns-then-count-n
returns-then-count-n c = search (rules, or_absent c.args.default c.args.n (args_of c.args.self) (omega (arith, c.count.ensures, c.if-count-n.true)))

pub returns : goal.returns
returns c = c.number.ensures ∙ sym (or_there c.args.default c.args.n (args_of c.args.self) c.requires.0 (omega (arith, c.count.ensures, c.if-count-n.false, c.requires.0)))

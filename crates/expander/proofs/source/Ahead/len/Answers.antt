-- `expander::source::Ahead::len` meets its contract. Assumes nothing.
use Rattle.rules.proofs.Base.{sym, arith, length-append}
use Rattle.expander.proofs.source.Ahead.len.Goals as goal

pub returns : goal.returns
returns c = record { whole = sym (length-append c.args.self.front.now c.args.self.rest.now); small = omega arith }

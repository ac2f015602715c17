-- `expander::machine::Machine::with_quotes` meets its contract. Assumes nothing.
use Rattle.rules.proofs.Base.{refl}
use Rattle.rules.specs.Marks.{mark_texts, with_quotes}
use Rattle.expander.proofs.machine.Machine.with_quotes.Goals as goal

pub returns : goal.returns
unfolding mark_texts with_quotes
returns c = (refl, refl, λ g x y. record { begin_quote = x; end_quote = y; begin_comment = g.begin_comment; end_comment = g.end_comment })

-- `expander::machine::Machine::with_comments` meets its contract. Assumes nothing.
use Rattle.rules.proofs.Base.{refl}
use Rattle.rules.specs.Marks.{mark_texts, with_comments}
use Rattle.expander.proofs.machine.Machine.with_comments.Goals as goal

pub returns : goal.returns
unfolding mark_texts with_comments
returns c = (refl, refl, λ g x y. record { begin_quote = g.begin_quote; end_quote = g.end_quote; begin_comment = x; end_comment = y })

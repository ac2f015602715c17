-- `expander::macros::search` meets its contract. Assumes nothing.
use Rattle.rules.proofs.Base.{sym}
use Rattle.rules.specs.Macros.{call_index}
use Rattle.expander.specs.Results.{number_text}
use Rattle.expander.proofs.GivingLaws.{giving_text}
use Rattle.expander.proofs.SteppedLaws.{refines_as}
use Rattle.expander.proofs.macros.search.Goals as goal

pub returns : goal.returns
unfolding call_index number_text
returns c = λ a s b m r. refines_as (giving_text _ s (sym c.index.ensures)) (c.give_number.ensures a s b m r)

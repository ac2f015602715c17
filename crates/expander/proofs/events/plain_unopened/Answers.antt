-- `expander::events::plain_unopened` meets its contract. Assumes nothing.
use Rattle.rules.proofs.Base.{◌∙◌, sym, ap}
use Rattle.expander.specs.Table.{plain_unopened}
use Rattle.expander.proofs.events.plain_unopened.Goals as goal

pub returns-in-Text : goal.returns-in-Text
unfolding plain_unopened
returns-in-Text c = sym (ap plain_unopened c.in-Text.is)

pub returns-in-Predefined : goal.returns-in-Predefined
unfolding plain_unopened
returns-in-Predefined c = c.needs_parenthesis.ensures ∙ sym (ap plain_unopened c.in-Predefined.is)

pub returns-in-Undefined : goal.returns-in-Undefined
unfolding plain_unopened
returns-in-Undefined c = sym (ap plain_unopened c.in-Undefined.is)

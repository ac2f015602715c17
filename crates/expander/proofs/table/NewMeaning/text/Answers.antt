-- `expander::table::NewMeaning::text` meets its contract. Assumes nothing.
use Rattle.expander.specs.Table.{meaning_text, new_meaning}
use Rattle.expander.proofs.table.NewMeaning.text.Goals as goal

pub returns-in-Text : goal.returns-in-Text
unfolding meaning_text new_meaning
returns-in-Text c = rw c.in-Text.is

pub returns-in-Predefined : goal.returns-in-Predefined
unfolding meaning_text new_meaning
returns-in-Predefined c = rw c.in-Predefined.is

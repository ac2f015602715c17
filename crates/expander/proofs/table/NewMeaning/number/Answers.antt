-- `expander::table::NewMeaning::number` meets its contract. Assumes nothing.
use Rattle.expander.specs.Table.{meaning_number, new_meaning}
use Rattle.expander.proofs.table.NewMeaning.number.Goals as goal

pub returns-in-Text : goal.returns-in-Text
unfolding meaning_number new_meaning
returns-in-Text c = rw c.in-Text.is

pub returns-in-Predefined : goal.returns-in-Predefined
unfolding meaning_number new_meaning
returns-in-Predefined c = rw c.in-Predefined.is

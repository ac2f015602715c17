-- `quenhovach::sheets::number_of` meets its contract. Assumes nothing.
use Rattle.rules.proofs.Base.{rules}
use Rattle.rules.specs.Sheets.{sheet_number}
use Rattle.quenhovach.proofs.sheets.number_of.Goals as goal

pub returns-in-Ok : goal.returns-in-Ok
unfolding sheet_number
returns-in-Ok c = search rules

pub returns-in-Err-Malformed : goal.returns-in-Err-Malformed
unfolding sheet_number
returns-in-Err-Malformed c = search rules

pub returns-in-Err-Twice : goal.returns-in-Err-Twice
unfolding sheet_number
returns-in-Err-Twice c = search rules

pub returns-in-Err-TooMany : goal.returns-in-Err-TooMany
unfolding sheet_number
returns-in-Err-TooMany c = search rules

pub returns-in-Err-NotDone : goal.returns-in-Err-NotDone
unfolding sheet_number
returns-in-Err-NotDone c = search rules

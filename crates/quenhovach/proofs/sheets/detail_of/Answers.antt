-- `quenhovach::sheets::detail_of` meets its contract. Assumes nothing.
use Rattle.rules.proofs.Base.{rules}
use Rattle.rules.specs.Sheets.{sheet_detail}
use Rattle.quenhovach.proofs.sheets.detail_of.Goals as goal

pub returns-in-Ok : goal.returns-in-Ok
unfolding sheet_detail
returns-in-Ok c = search rules

pub returns-in-Err-Malformed : goal.returns-in-Err-Malformed
unfolding sheet_detail
returns-in-Err-Malformed c = search rules

pub returns-in-Err-NotDone : goal.returns-in-Err-NotDone
unfolding sheet_detail
returns-in-Err-NotDone c = search rules

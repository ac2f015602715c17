-- `sheet::empty` meets its contract. Assumes nothing.
use Rattle.rules.proofs.Base.{rules}
use Rattle.rules.specs.Sheets.{sheet_of}
use Rattle.sheet.proofs.empty.Goals as goal

pub returns : goal.returns
unfolding sheet_of
returns c = search rules

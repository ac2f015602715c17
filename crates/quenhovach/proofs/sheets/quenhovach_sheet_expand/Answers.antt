-- `quenhovach::sheets::quenhovach_sheet_expand` meets its contract: what `sheet::expand` promises, with the six numbers and the sheet's words written out. Assumes nothing.
use Rattle.quenhovach.proofs.Reports.{sheet_reported}
use Rattle.quenhovach.proofs.sheets.quenhovach_sheet_expand.Goals as goal

pub returns : goal.returns
returns c = sheet_reported c.expand-r.ensures c.numbers_of-numbers.ensures c.answer_words.ensures

-- `quenhovach::sheets::answer_words` meets its contract. Assumes nothing.
use Rattle.rules.proofs.Base.{◌∙◌, sym, ap, Result}
use Rattle.rules.specs.declared.Sheet.{Sheet}
use Rattle.rules.specs.declared.SheetError.{SheetError}
use Rattle.rules.specs.Sheets.{sheet_in}
use Rattle.quenhovach.specs.Sheets.{sheet_words}
use Rattle.quenhovach.proofs.sheets.answer_words.Goals as goal

pub returns-in-Ok : goal.returns-in-Ok
unfolding sheet_in
returns-in-Ok c = c.sheet_words.ensures ∙ ap (λ (r : Result Sheet SheetError). sheet_words (sheet_in r)) (sym c.in-Ok.is)

pub returns-in-Err : goal.returns-in-Err
unfolding sheet_in
returns-in-Err c = c.sheet_words-in-Err.ensures ∙ ap sheet_words c.empty.ensures ∙ ap (λ (r : Result Sheet SheetError). sheet_words (sheet_in r)) (sym c.in-Err.is)

-- `quenhovach::sheets::quenhovach_sheet_read` meets its contract. Assumes nothing.
use Rattle.rules.proofs.Base.{◌∙◌, ap, Result}
use Rattle.rules.specs.declared.Sheet.{Sheet}
use Rattle.rules.specs.declared.SheetError.{SheetError}
use Rattle.rules.specs.Sheets.{sheet_number, sheet_detail, sheet_in}
use Rattle.quenhovach.specs.Sheets.{sheet_words}
use Rattle.quenhovach.proofs.sheets.quenhovach_sheet_read.Goals as goal

pub returns : goal.returns
returns c =
    let r = c.read-answer.ensures in
    record {
      number_is = c.number_of-number.ensures ∙ ap (λ (t : Result Sheet SheetError). sheet_number t) r;
      words_are = c.answer_words.ensures ∙ ap (λ (t : Result Sheet SheetError). sheet_words (sheet_in t)) r;
      line_is = c.detail_of.ensures ∙ ap (λ (t : Result Sheet SheetError). sheet_detail t) r;
    }

-- What a call from C makes of what the expander promises.
use Rattle.rules.proofs.Base.{ℕ, ◌∙◌, ap, ◌≡◌, List, get_or}
use Rattle.rules.specs.Answers.{numbers}
use Rattle.rules.specs.Bytes.{Bytes}
use Rattle.rules.specs.Contract.{Buffers, Expanded, report_of}
use Rattle.rules.specs.declared.Report.{Report}
use Rattle.rules.specs.declared.SheetReport.{SheetReport}
use Rattle.rules.specs.Sheets.{SheetExpanded, sheet_in}
use Rattle.quenhovach.specs.Reported.{Reported}
use Rattle.quenhovach.specs.Sheets.{sheet_numbers, sheet_words, SheetInWords}

-- the numbers of what the expander reports, with the first of them given back
pub reported :
    {text set : Bytes} {budget : ℕ} {b a : Buffers} {r : Report} {ns : List ℕ} → Expanded text set budget b a r → ns ≡ numbers r
    → Reported text set budget b a (get_or ns 0 0) ns
unfolding numbers report_of
reported x e =
    let n = e ∙ ap numbers x.report in
    record { number_is = ap (λ (l : List ℕ). get_or l 0 0) n; report_is = n; buffers_are = x.buffers }

-- the same of a run that was read as a sheet, with the words of the sheet
pub sheet_reported :
    {text set : Bytes} {budget : ℕ} {b a : Buffers} {r : SheetReport} {ns ws : List ℕ} → SheetExpanded text set budget b a r → ns ≡ sheet_numbers r → ws ≡ sheet_words (sheet_in r.answer)
    → SheetInWords text set budget b a (get_or ns 0 0) ns ws
unfolding sheet_numbers
sheet_reported x e w =
    let n = e ∙ ap sheet_numbers x.report in
    record {
      number_is = ap (λ (l : List ℕ). get_or l 0 0) n;
      report_is = n;
      words_are = w ∙ ap (λ (r : SheetReport). sheet_words (sheet_in r.answer)) x.report;
      buffers_are = x.buffers;
    }

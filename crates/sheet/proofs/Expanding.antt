-- Laws of a run that is read as a sheet. Assumes nothing.
use Rattle.rules.proofs.Base.{ℕ, ◌≤◌, ◌∙◌, refl, sym, ap, ap₂, ◌≡◌, true, false, Bool, Result, Err, arith, eqb, length, take, drop, length-append, take_at}
use Rattle.rules.specs.declared.Answer.{Answer}
use Rattle.rules.specs.declared.Answer.TheVariants as answer
use Rattle.rules.specs.declared.Report.{Report}
use Rattle.rules.specs.declared.Sheet.{Sheet}
use Rattle.rules.specs.declared.SheetError.{SheetError}
use Rattle.rules.specs.declared.SheetError.TheVariants.{NotDone}
use Rattle.rules.specs.declared.SheetReport.{SheetReport}
use Rattle.rules.specs.Bytes.{Bytes}
use Rattle.rules.specs.Answers.{answer_number}
use Rattle.rules.specs.Run.{Ended}
use Rattle.rules.specs.Contract.{Buffers, output_of, report_of, fronted, left_by, run_in, Expanded}
use Rattle.rules.specs.Sheets.{sheet_read, sheet_after, sheet_report_of, SheetExpanded}

-- the report of a run with what was read of it
unfoldable pub with_sheet : Report → Result Sheet SheetError → SheetReport
with_sheet r t = record { answer = t; steps = r.steps; place = r.place; output = r.output; errors = r.errors }

module _ (text set : Bytes) (budget : ℕ) (before after : Buffers) (r : Report) (x : Expanded text set budget before after r) where
  abbrev run : Ended
  run = run_in text set before budget

  -- the written bytes are the front of the output
  pub written_front : take r.output after.output ≡ output_of run
  unfolding report_of left_by fronted
  written_front =
      ap₂ (λ (n : ℕ) (b : Bytes). take n b) (ap (λ (t : Report). t.output) x.report) (ap (λ (b : Buffers). b.output) x.buffers)
      ∙ take_at (output_of run) (drop (length (output_of run)) before.output) (length (output_of run)) refl

  pub written_within : r.output ≤ length after.output
  unfolding report_of left_by fronted
  written_within =
      omega
      (arith, ap (λ (t : Report). t.output) x.report, ap (λ (b : Buffers). length b.output) x.buffers, length-append (output_of run) (drop (length (output_of run)) before.output))

  reported : (t : Result Sheet SheetError) {s : SheetReport} → s ≡ with_sheet r t → t ≡ sheet_after run → s ≡ sheet_report_of run
  unfolding sheet_report_of with_sheet
  reported t e f = e ∙ ap₂ with_sheet x.report f

  answer_is : r.answer ≡ run.answer
  unfolding report_of
  answer_is = ap (λ (t : Report). t.answer) x.report

  -- a run that ended done is read
  pub done_read : r.answer ≡ answer.Done → (t : Result Sheet SheetError) → t ≡ sheet_read (take r.output after.output) → {s : SheetReport} → s ≡ with_sheet r t → SheetExpanded text set budget before after s
  unfolding sheet_after answer_number
  done_read d t e f =
      record {
        report = reported t f (e ∙ ap sheet_read written_front ∙ sym (ap (λ (b : Bool). elim b [ true ↦ sheet_read (output_of run) | false ↦ Err (NotDone run.answer) ]) (ap (λ a. eqb (answer_number a) 0) (sym answer_is ∙ d))));
        buffers = x.buffers;
      }

  -- any other is not
  pub not_done : eqb (answer_number r.answer) 0 ≡ false → (t : Result Sheet SheetError) → t ≡ Err (NotDone r.answer) → {s : SheetReport} → s ≡ with_sheet r t → SheetExpanded text set budget before after s
  unfolding sheet_after
  not_done n t e f =
      record {
        report = reported t f (e ∙ ap (λ (a : Answer). Err (NotDone a)) answer_is ∙ sym (ap (λ (b : Bool). elim b [ true ↦ sheet_read (output_of run) | false ↦ Err (NotDone run.answer) ]) (ap (λ a. eqb (answer_number a) 0) (sym answer_is) ∙ n)));
        buffers = x.buffers;
      }

-- the answers but done
pub another : (a : Answer) → (a ≡ answer.Done → ⊥) → eqb (answer_number a) 0 ≡ false
unfolding answer_number
another answer.Done h = absurd (h refl)
another (answer.Exit code) h = refl
another answer.Lend h = refl
another answer.Spent h = refl
another (answer.Room buffer) h = refl
another (answer.Unclosed what) h = refl
another answer.Name h = refl
another answer.Number h = refl
another answer.Expression h = refl
another answer.Divisor h = refl
another answer.Mark h = refl
another answer.NoText h = refl
another answer.Gone h = refl
another answer.Deep h = refl
another answer.BadSet h = refl
another answer.NoItem h = refl
another answer.NoDefinition h = refl

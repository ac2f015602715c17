-- `sheet::expand` meets its contract: what the expander promises, with the written text read as a sheet where the run ended done. Assumes nothing.
use Rattle.rules.proofs.Base.{refl, sym, length-take-le}
use Rattle.sheet.proofs.Expanding.{with_sheet, written_within, done_read, not_done, another}
use Rattle.sheet.proofs.expand.Goals as goal

pub slice_bounds-read-end : goal.slice_bounds-read-end
slice_bounds-read-end c = written_within _ _ _ _ _ _ c.expand-r.ensures

pub slice_bounds-read-end-2 : goal.slice_bounds-read-end-2
slice_bounds-read-end-2 c = sym (length-take-le _ _ (written_within _ _ _ _ _ _ c.expand-r.ensures))

pub returns : goal.returns
unfolding with_sheet
returns c = done_read _ _ _ _ _ _ c.expand-r.ensures c.in-Done.is _ c.read.ensures refl

pub returns-in_default : goal.returns-in_default
unfolding with_sheet
returns-in_default c = not_done _ _ _ _ _ _ c.expand-r.ensures (another _ c.in_default.not-Done) _ refl refl

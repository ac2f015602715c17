-- `quenhovach::sheets::quenhovach_sheet_find` meets its contract: the loop keeps that the answer is sought from the line i on. Assumes nothing.
use Rattle.quenhovach.proofs.SheetWords.{Sought}
use Rattle.quenhovach.proofs.sheets.quenhovach_sheet_find.Given as goal

abbrev pub invariant-loop-i : goal.invariant-loop-i
invariant-loop-i l = Sought l.words l.text l.name l.i

-- `quenhovach::sheets::sheet_words` meets its contract: the loop keeps that the words of the lines before i stand. Assumes nothing.
use Rattle.rules.proofs.Base.{◌+◌, ◌*◌, get_or}
use Rattle.quenhovach.proofs.SheetWords.{WordsOf}
use Rattle.quenhovach.proofs.sheets.sheet_words.Given as goal

abbrev pub invariant-loop-i : goal.invariant-loop-i
invariant-loop-i l = WordsOf l.s.lines (get_or l.initial.words 0 0) l.words l.i (1 + l.i * 5)

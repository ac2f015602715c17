-- `quenhovach::sheets::sheet_words` meets its contract: the loop keeps that the words of the lines before i stand. Assumes nothing.
use Rattle.rules.proofs.Base.{◌≡◌, ◌+◌, ◌*◌, length, arith}
use Rattle.quenhovach.proofs.SheetWords.{words_first, words_all, words_on}
use Rattle.quenhovach.proofs.sheets.sheet_words.Goals as goal
use Rattle.quenhovach.proofs.sheets.sheet_words.Goals.{Start}

-- the sheet has all of its lines
full : (c : Start) → length c.args.s.lines ≡ 256
full c = c.well_formed.0.1.1.0.1.0.1

pub loop-i-init : goal.loop-i-init
loop-i-init c = words_first c.args.s.lines c.args.s.count

pub loop-i-preserved : goal.loop-i-preserved
loop-i-preserved c =
    let l = c.loop-i in
    let next : 1 + l.i * 5 + 5 ≡ 1 + (l.i + 1) * 5 = omega arith in
    rw (← next) (words_on c.args.s.lines c.args.s.count (full (goal.at.loop-i-preserved c).Start) l.words l.i _ l.invariant (omega arith) c.value_words-v.result c.value_words-v.ensures)

pub returns : goal.returns
returns c =
    let l = c.loop-i in
    words_all c.args.s.lines c.args.s.count (full (goal.at.returns c).Start) l.words l.i _ l.invariant (omega arith)

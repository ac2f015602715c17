-- `lines::admit` meets its contract: what it refuses, in its order. Assumes nothing.
use Rattle.rules.proofs.Base.{Ok}
use Rattle.lines.proofs.Judged.{too_long, no_words, no_totals, judged}
use Rattle.lines.proofs.admit.Goals as goal
use Rattle.lines.proofs.admit.Goals.{then-words-last-via-then-words-last, then-words-last-via-else-words-last+then-totals-last}

pub returns-then-length-gt-LONGEST : goal.returns-then-length-gt-LONGEST
returns-then-length-gt-LONGEST c = too_long c.args.length c.args.words.now c.args.totals.now (Ok tt) c.if-length-gt-LONGEST.true

pub returns-then-words-last : goal.returns-then-words-last
returns-then-words-last c =
    elim c.then-words-last.branch [
      | then-words-last-via-then-words-last w ↦ no_words c.args.length c.args.words.now c.args.totals.now (Ok tt) c.if-length-gt-LONGEST.false w.if-words-last.true
      | then-words-last-via-else-words-last+then-totals-last w ↦ no_totals c.args.length c.args.words.now c.args.totals.now (Ok tt) c.if-length-gt-LONGEST.false w.if-words-last.false w.if-totals-last.true
    ]

pub returns : goal.returns
returns c =
    judged c.args.length c.args.words.now c.args.totals.now (Ok tt)
    (record { short = c.if-length-gt-LONGEST.false; room = (c.if-words-last.false, c.if-totals-last.false) })

-- `container::chunks::end_of` meets its contract: the loop keeps that what is read from i on ends where all ends. Assumes nothing.
use Rattle.rules.proofs.Base.{◌∙◌, sym}
use Rattle.container.proofs.Reading.{end_done, end_short, end_other, end_on}
use Rattle.container.proofs.chunks.end_of.Goals as goal

pub returns-then-w-i : goal.returns-then-w-i
returns-then-w-i c = end_short c.loop-owed.invariant c.loop-owed-test.true c.min-kind.ensures c.if-w-i.true

pub returns-then-from-kind : goal.returns-then-from-kind
returns-then-from-kind c =
    end_other c.loop-owed.invariant c.loop-owed-test.true c.min-kind.ensures
    (λ e. c.if-from-kind.true (c.from.ensures ∙ e))

pub loop-owed-preserved : goal.loop-owed-preserved
loop-owed-preserved c =
    end_on c.loop-owed.invariant c.loop-owed-test.true c.min-kind.ensures
    c.if-w-i.false
    (sym c.from.ensures ∙ c.if-from-kind.false)

pub returns : goal.returns
returns c = end_done c.loop-owed.invariant c.loop-owed-test.false

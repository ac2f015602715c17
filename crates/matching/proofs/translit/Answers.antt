-- `matching::translit` meets its contract: the loop keeps that what is written and what is left make the whole text. Assumes nothing.
use Rattle.rules.proofs.Base.{arith}
use Rattle.matching.proofs.Replacing.{write_one, write_none, written_full, written_end}
use Rattle.matching.proofs.translit.Goals.{then-t-lt-NOTHING+else-j-out, else-t-lt-NOTHING}
use Rattle.matching.proofs.translit.Goals as goal

pub returns-then-j-out : goal.returns-then-j-out
returns-then-j-out c = written_full c.loop-b.invariant c.loop-b-test.true (c.type_inv.s c.loop-b.b-index).fits c.if-t-lt-NOTHING.true c.if-j-out.true

pub loop-b-preserved : goal.loop-b-preserved
loop-b-preserved c =
    let v = c.loop-b.invariant in
    let h = c.loop-b-test.true in
    let b = (c.type_inv.s c.loop-b.b-index).fits in
    elim c.if-t-lt-NOTHING.branch [
      | then-t-lt-NOTHING+else-j-out w ↦ rw (w.out-is, w.j-is) (write_one v h b w.put.result w.put.ensures (omega (arith, v.fitting, w.if-j-out.false)))
      | else-t-lt-NOTHING w ↦ rw (w.out-is, w.j-is) (write_none v h b w.if-t-lt-NOTHING.false)
    ]

pub returns : goal.returns
returns c = written_end c.loop-b.invariant c.loop-b-test.false

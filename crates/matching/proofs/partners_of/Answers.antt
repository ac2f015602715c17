-- `matching::partners_of` meets its contract: the loop keeps that the table has the entries of the bytes from i on. Assumes nothing.
use Rattle.rules.proofs.Base.{◌-◌, ◌≡◌, ◌<◌, ◌≤◌, arith, length, get_or, rules}
use Rattle.matching.proofs.Replacing.{enter_start, enter_byte, enter_none, enter_done}
use Rattle.matching.proofs.partners_of.Goals.{in-Some, in-None}
use Rattle.matching.proofs.partners_of.Goals as goal

pub loop-i-init : goal.loop-i-init
loop-i-init c = enter_start c.args.from.now c.args.to.now

pub loop-i-preserved : goal.loop-i-preserved
loop-i-preserved c =
    let v = c.loop-i.invariant in
    let h = c.loop-i-test.true in
    let b = (c.type_inv.from (c.loop-i.i - 1)).fits in
    elim c.match-get.branch [
      | in-Some w ↦
          let e : w.in-Some.y.now ≡ get_or c.args.to.now (c.loop-i.i - 1) 0 = search rules in
          let l : c.loop-i.i - 1 < length c.args.to.now = search rules in
          rw (w.table-is, e) (enter_byte v h b l)
      | in-None w ↦
          let l : length c.args.to.now ≤ c.loop-i.i - 1 = search rules in
          rw w.table-is (enter_none v h b l)
    ]

pub returns : goal.returns
returns c = enter_done c.loop-i.invariant (omega arith)

-- `matching::borders::fill` meets its contract: the loop keeps that k bytes are a border of the first i, and that no longer one goes on. Assumes nothing.
use Rattle.rules.proofs.Base.{arith}
use Rattle.matching.proofs.Tracking.{fronts_to, fill_start, fill_done, fill_on}
use Rattle.matching.proofs.borders.fill.Goals as goal

pub loop-i-init : goal.loop-i-init
loop-i-init c = fill_start c.args.needle.now c.args.table.now c.requires.0 c.requires.2

pub go_on-k-requires : goal.go_on-k-requires
go_on-k-requires c =
    let w = c.loop-i.invariant in
    let l = w.less in
    (omega arith, w.room, fronts_to c.loop-i.k w.fronts (omega arith))

pub loop-i-preserved : goal.loop-i-preserved
loop-i-preserved c = fill_on c.loop-i.invariant c.loop-i-test.true c.go_on-k.ensures

pub returns : goal.returns
returns c = fill_done c.loop-i.invariant (omega arith)

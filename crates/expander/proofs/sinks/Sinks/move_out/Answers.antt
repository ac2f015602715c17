-- `expander::sinks::Sinks::move_out` meets its contract: the text stands behind the output and is taken out. Assumes nothing.
use Rattle.rules.proofs.Base.{arith}
use Rattle.expander.proofs.DivertingLaws.{out_moves}
use Rattle.expander.proofs.sinks.Sinks.move_out.Goals as goal

pub returns : goal.returns
returns c =
    let n = c.count in
    let x = c.extract in
    λ u m q h.
    out_moves m c.args.i h q n.result n.ensures x.new.dst x.ensures (omega (arith, n.ensures, c.requires.2)) (c.compact.ensures.1 u.waiting h m.waiting)

-- `expander::packed::Packed::sift` meets its contract: the laws `sifted_named` and `sifted_kept`. Assumes nothing.
use Rattle.rules.proofs.Base.{arith}
use Rattle.expander.proofs.Sifting.{sifted_named, sifted_kept}
use Rattle.expander.proofs.packed.Packed.sift.Goals as goal

pub returns-then-same : goal.returns-then-same
returns-then-same c =
    let a = c.args in
    sifted_named a.name.now a.bytes.now a.ends.now a.self a.from a.middle a.end (omega (arith, c.requires)) c.same.ensures c.if-same.true

pub returns : goal.returns
returns c =
    let a = c.args in
    sifted_kept a.name.now a.bytes.now a.ends.now a.self a.from a.middle a.end (omega (arith, c.requires)) (omega (arith, c.requires)) (omega (arith, c.requires))
    (omega (arith, c.requires)) (omega (arith, c.requires)) c.same.ensures c.if-same.false c.move_bytes.ensures

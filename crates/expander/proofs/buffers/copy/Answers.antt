-- `expander::buffers::copy` meets its contract: the loop keeps that i bytes are copied over the first i. Assumes nothing.
use Rattle.rules.proofs.Base.{refl, arith, length-set}
use Rattle.expander.proofs.Parts.{copied_on, copied_all}
use Rattle.expander.proofs.buffers.copy.Goals as goal

pub loop-i-init : goal.loop-i-init
loop-i-init c = (refl, refl)

pub loop-i-preserved : goal.loop-i-preserved
loop-i-preserved c =
    let a = c.args in
    let l = c.loop-i in
    (simp length-set l.invariant.0, copied_on a.from.now a.into.now l.into l.i l.invariant.1 (omega arith) (omega arith))

pub returns : goal.returns
returns c =
    let a = c.args in
    let l = c.loop-i in
    copied_all a.from.now a.into.now l.into l.i l.invariant.1 (omega arith) (omega arith)

-- `matching::translit_length` meets its contract: those bytes are counted for which something stands. Assumes nothing.
use Rattle.rules.proofs.Base.{◌∙◌, take_all}
use Rattle.matching.proofs.Replacing.{counted}
use Rattle.matching.proofs.translit_length.Goals as goal

pub returns : goal.returns
returns c =
    let t = c.args.table.now in
    let s = c.args.s.now in
    c.loop-b.invariant ∙ rw (take_all c.loop-b.b-index s c.loop-b-test.false) (counted t s (λ k. (c.type_inv.s k).fits))

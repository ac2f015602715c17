-- `expander::buckets::clear_heads` meets its contract: the loop keeps that the heads of the buckets so far are 0. Assumes nothing.
use Rattle.rules.proofs.Base.{◌∙◌, refl, arith}
use Rattle.expander.proofs.Chains.{chained_none, zero_on, joined_before}
use Rattle.expander.proofs.buckets.clear_heads.Goals as goal

pub loop-b-preserved : goal.loop-b-preserved
loop-b-preserved c =
    let l = c.loop-b in
    let k = c.put_head.ensures in
    (zero_on k l.invariant.0, λ d m. k.candidates d ∙ l.invariant.1 d m, joined_before l.ends l.ends c.put_head.new.ends refl k.ends ∙ l.invariant.2)

pub returns : goal.returns
returns c = let l = c.loop-b in (chained_none _ (λ b m. l.invariant.0 b (omega (arith, m))) l.invariant.1, l.invariant.2)

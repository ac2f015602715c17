-- `expander::substitution::substituted_length` meets its contract: the loop keeps that what is counted and the length of what comes behind are the whole's. Assumes nothing.
use Rattle.rules.proofs.Base.{arith}
use Rattle.expander.proofs.SubstitutionLaws.{width_some, measured_all}
use Rattle.expander.proofs.substitution.substituted_length.Goals as goal

pub returns : goal.returns
returns c = measured_all _ _ _ _ c.loop-i.i c.loop-i-test.false c.loop-i.invariant.2

pub loop-i-smaller : goal.loop-i-smaller
loop-i-smaller c = omega (arith, width_some c.parameter_at-p.result, c.loop-i-test.true)

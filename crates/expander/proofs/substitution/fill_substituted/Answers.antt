-- `expander::substitution::fill_substituted` meets its contract: the loop keeps that what is written and what comes behind are the whole. Assumes nothing.
use Rattle.rules.proofs.Base.{◌∙◌, arith}
use Rattle.expander.proofs.SubstitutionLaws.{Stands, stands_within, width_some, filling_ends, filling_on}
use Rattle.expander.proofs.FilledLaws.{filled_long}
use Rattle.expander.proofs.substitution.fill_substituted.Goals as goal

pub loop-i-preserved : goal.loop-i-preserved
loop-i-preserved c =
    let l = c.loop-i in
    let f = c.fill_parameter-at.ensures in
    let s : Stands c.args.body.now l.i c.parameter_at-p.result c.parameter_width-i.result = record { leads = c.parameter_at-p.ensures; wide = c.parameter_width-i.ensures } in
    (stands_within s l.invariant.0, filled_long f.filled ∙ l.invariant.1, filling_on l.invariant.2 s f)

pub returns : goal.returns
returns c = filling_ends c.loop-i.invariant.2 c.loop-i-test.false

pub loop-i-smaller : goal.loop-i-smaller
loop-i-smaller c = omega (arith, width_some c.parameter_at-p.result, c.loop-i-test.true)

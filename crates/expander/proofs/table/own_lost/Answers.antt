-- `expander::table::own_lost` meets its contract: the laws of the mask. Assumes nothing.
use Rattle.rules.proofs.Base.{sym, ◌∙◌}
use Rattle.expander.proofs.MaskLaws.{lost_none, lost_gone, bit_in, lost_kept}
use Rattle.expander.proofs.table.own_lost.Goals as goal

pub overflow_sub-result-in-Some : goal.overflow_sub-result-in-Some
overflow_sub-result-in-Some c =
    bit_in c.args.name.now (sym c.number_of.ensures.number ∙ c.in-Some.is) c.args.own c.keeps_own.ensures c.if-keeps_own.true

pub returns-in-Some : goal.returns-in-Some
returns-in-Some c =
    lost_kept c.args.name.now (sym c.number_of.ensures.number ∙ c.in-Some.is) c.args.own c.keeps_own.ensures c.if-keeps_own.true

pub returns-in_default : goal.returns-in_default
returns-in_default c =
    lost_gone c.args.name.now (sym c.number_of.ensures.number ∙ c.in-Some.is) c.args.own c.keeps_own.ensures c.if-keeps_own.false

pub returns-in_default-2 : goal.returns-in_default-2
returns-in_default-2 c = lost_none c.args.name.now (sym c.number_of.ensures.number ∙ c.in_default.is) c.args.own

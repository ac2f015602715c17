-- `container::is_good` meets its contract: the loop keeps that from i on the set is as good as it is in whole. Assumes nothing.
use Rattle.rules.proofs.Base.{◌∙◌, sym, arith}
use Rattle.container.proofs.Items.{stands_at}
use Rattle.container.proofs.Judging.{judge_long, judge_start, judge_byte, judge_other, judge_on}
use Rattle.container.proofs.is_good.Goals as goal

pub returns-then-set-gt-LONGEST : goal.returns-then-set-gt-LONGEST
returns-then-set-gt-LONGEST c = judge_long c.args.set.now (omega (arith, c.if-set-gt-LONGEST.true))

pub loop-item-init : goal.loop-item-init
loop-item-init c = judge_start c.args.set.now c.if-set-gt-LONGEST.false

pub loop-item-smaller : goal.loop-item-smaller
loop-item-smaller c =
    let r = stands_at c.args.set.now c.loop-item.i (sym c.in-Some.is ∙ c.item_at.ensures) in
    omega (arith, r.longer, r.inside)

pub loop-item-preserved : goal.loop-item-preserved
loop-item-preserved c = judge_on c.loop-item.invariant (stands_at c.args.set.now c.loop-item.i (sym c.in-Some.is ∙ c.item_at.ensures))

pub returns-then-set-i-eq1 : goal.returns-then-set-i-eq1
returns-then-set-i-eq1 c = judge_byte c.loop-item.invariant (sym c.in_default.is ∙ c.item_at.ensures) c.if-set-i-eq1.true

pub returns-else-set-i-eq1 : goal.returns-else-set-i-eq1
returns-else-set-i-eq1 c = judge_other c.loop-item.invariant (sym c.in_default.is ∙ c.item_at.ensures) c.if-set-i-eq1.false

-- `container::item_at` meets its contract: no item, or one whose chunks end where `end_of` says. Assumes nothing.
use Rattle.rules.proofs.Base.{◌∙◌, sym, arith}
use Rattle.container.proofs.Items.{item_beyond, item_not, item_ends}
use Rattle.container.proofs.item_at.Goals as goal

pub returns-then-saturating_sub-lt-HEAD : goal.returns-then-saturating_sub-lt-HEAD
returns-then-saturating_sub-lt-HEAD c = item_beyond c.args.set.now c.args.place (omega arith)

pub returns-then-set-place : goal.returns-then-set-place
returns-then-set-place c = item_not c.args.set.now c.args.place c.if-set-place.true

pub returns-in_err-end : goal.returns-in_err-end
returns-in_err-end c =
    c.from_residual.ensures
    ∙ item_ends
    c.args.set.now c.args.place
    (omega (arith, c.if-saturating_sub-lt-HEAD.false))
    c.if-set-place.false
    c.number_at-name.ensures.value
    c.number_at-text.ensures.value
    (sym c.in_err-end.was ∙ c.end_of.ensures)

pub returns : goal.returns
returns c =
    item_ends
    c.args.set.now c.args.place
    (omega (arith, c.if-saturating_sub-lt-HEAD.false))
    c.if-set-place.false
    c.number_at-name.ensures.value
    c.number_at-text.ensures.value
    (sym c.in_ok-end.was ∙ c.end_of.ensures)

-- `container::copy_text` meets its contract: no item, a slice that is too short, or the text over its front. Assumes nothing.
use Rattle.rules.proofs.Base.{◌∙◌, sym, arith, length-take-le}
use Rattle.container.proofs.Items.{Stands, stands_at, joined_long}
use Rattle.container.proofs.Copying.{not_copied, too_short, copied}
use Rattle.container.proofs.copy_text.Goals as goal
use Rattle.container.proofs.copy_text.Goals.{In-Some}

-- the item that was read
item : (c : In-Some) → Stands c.args.set.now c.args.place c.in-Some.item
item c = stands_at _ _ (sym c.in-Some.is ∙ c.item_at.ensures)

pub copy_behind-requires : goal.copy_behind-requires
copy_behind-requires c = omega (arith, joined_long (item (goal.at.copy_behind-requires c).In-Some), length-take-le c.in-Some.item.text c.args.into.now (omega (arith, c.if-item-into.true)))

pub returns-in-Some : goal.returns-in-Some
returns-in-Some c = copied (item (goal.at.returns-in-Some c).In-Some) c.args.into.now (omega (arith, c.if-item-into.true)) c.copy_behind.ensures

pub returns-in_default : goal.returns-in_default
returns-in_default c = too_short (item (goal.at.returns-in_default c).In-Some) c.args.into.now c.if-item-into.false

pub returns-in_default-2 : goal.returns-in_default-2
returns-in_default-2 c = not_copied c.args.set.now c.args.place c.args.into.now (sym c.in_default.is ∙ c.item_at.ensures)

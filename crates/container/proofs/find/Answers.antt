-- `container::find` meets its contract: the loop keeps that the first item with the name is the first from a place on. Assumes nothing.
use Rattle.rules.proofs.Base.{◌∙◌, sym, arith}
use Rattle.container.proofs.Items.{Stands, stands_at, joined_long}
use Rattle.container.proofs.Finding.{find_start, find_bad, find_here, find_on, other_length, name_compared}
use Rattle.container.proofs.find.Goals as goal
use Rattle.container.proofs.find.Goals.{In-Some, else-item-name-via-then-item-name+else-begins_with, else-item-name-via-else-item-name}

-- the item that was read
item : (c : In-Some) → Stands c.args.set.now c.loop-item.place c.in-Some.item
item c = stands_at _ _ (sym c.in-Some.is ∙ c.item_at.ensures)

pub returns-then-begins_with : goal.returns-then-begins_with
returns-then-begins_with c =
    find_here c.loop-item.invariant (item (goal.at.returns-then-begins_with c).In-Some)
    (name_compared (item (goal.at.returns-then-begins_with c).In-Some) _ c.if-item-name.true c.begins_with.ensures ∙ c.if-begins_with.true)

pub loop-item-preserved : goal.loop-item-preserved
loop-item-preserved c =
    let r = item (goal.at.loop-item-preserved c).In-Some in
    find_on c.loop-item.invariant r (
    elim c.else-item-name.branch [
      | else-item-name-via-then-item-name+else-begins_with w ↦ name_compared r _ w.if-item-name.true w.begins_with.ensures ∙ w.if-begins_with.false
      | else-item-name-via-else-item-name w ↦ other_length r _ w.if-item-name.false
    ]
    )

pub returns : goal.returns
returns c = find_bad c.loop-item.invariant (sym c.in_default.is ∙ c.item_at.ensures)

pub loop-item-init : goal.loop-item-init
loop-item-init c = find_start c.args.set.now c.args.name.now

pub begins_with-requires : goal.begins_with-requires
begins_with-requires c = omega (arith, joined_long (item (goal.at.begins_with-requires c).In-Some), c.if-item-name.true)

pub loop-item-smaller : goal.loop-item-smaller
loop-item-smaller c = let r = item (goal.at.loop-item-smaller c).In-Some in omega (arith, r.longer, r.inside)

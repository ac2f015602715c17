-- `expander::including::give_item` meets its contract: the text is copied into the part before the pending text. Assumes nothing.
use Rattle.rules.proofs.Base.{◌∙◌, sym, arith}
use Rattle.std.proofs.lemmas.Result.{err_from_is_err_and}
use Rattle.expander.proofs.GivingLaws.{giving_room, giving_part, placed_at, gap_long}
use Rattle.expander.proofs.IncludingLaws.{laid_whole}
use Rattle.expander.proofs.including.give_item.Goals as goal

pub returns-in_err-at : goal.returns-in_err-at
returns-in_err-at c =
    let p = err_from_is_err_and c.from_residual.result c.from_residual.ensures.1 in
    rw (p.1, p.2) (λ a s b m w r e l. giving_room r w _ (sym l) (sym c.place_before.ensures ∙ c.in_err-at.was))

pub slice_bounds-copy_text-count : goal.slice_bounds-copy_text-count
slice_bounds-copy_text-count c = let q = placed_at c.args.p.from _ (sym c.place_before.ensures ∙ c.in_ok-at.was) in omega (arith, q.is)

pub slice_bounds-copy_text-start : goal.slice_bounds-copy_text-start
slice_bounds-copy_text-start c = let q = placed_at c.args.p.from _ (sym c.place_before.ensures ∙ c.in_ok-at.was) in omega (arith, q.is)

pub returns : goal.returns
returns c =
    let k = sym c.place_before.ensures ∙ c.in_ok-at.was in
    λ a s b m w r e l.
    giving_part r w _ (sym l) k (laid_whole c.copy_text.ensures e (sym l ∙ sym (gap_long c.args.pending.now c.args.p.from _ k r.source.from_in)))

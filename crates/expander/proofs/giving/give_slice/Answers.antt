-- `expander::giving::give_slice` meets its contract: the slice is pushed in front of the pending text. Assumes nothing.
use Rattle.rules.proofs.Base.{refl, sym, ◌∙◌, arith, length}
use Rattle.std.proofs.lemmas.Result.{err_from_is_err_and}
use Rattle.expander.proofs.GivingLaws.{giving_room, giving_front, placed_at}
use Rattle.expander.proofs.giving.give_slice.Goals as goal

pub returns-in_err-place_before : goal.returns-in_err-place_before
returns-in_err-place_before c =
    let p = err_from_is_err_and c.from_residual.result c.from_residual.ensures.1 in
    rw (p.1, p.2) (λ a u b m r. giving_room r c.args.s.now (length c.args.s.now) refl (sym c.place_before.ensures ∙ c.in_err-place_before.was))

pub push-requires : goal.push-requires
push-requires c =
    ((placed_at c.args.p.from (length c.args.s.now) (sym c.place_before.ensures ∙ c.in_ok-place_before.was)).fits, c.requires.valid.represents.source.from_in)

pub returns : goal.returns
returns c =
    λ a u b m r.
    let w = c.args.s.now in
    let k = sym c.place_before.ensures ∙ c.in_ok-place_before.was in
    giving_front r w (length w) refl (k ∙ rw (placed_at c.args.p.from (length w) k).is (rw c.push.ensures.0 refl)) (omega (arith, c.push.auto.buffer)) c.push.ensures.1

-- `expander::giving::give_number` meets its contract: a number of a good radix has a length; it is written into the part before the pending text. Assumes nothing.
use Rattle.rules.proofs.Base.{◌∙◌, ◌≡◌, sym, arith, length, rules}
use Rattle.std.proofs.lemmas.Result.{err_from_is_err_and}
use Rattle.std.proofs.lemmas.Int.{to_z-of_z}
use Rattle.std.proofs.Common.{w32}
use Rattle.rules.specs.Numerals.{written_in}
use Rattle.numerals.specs.Answers.{length_of}
use Rattle.expander.proofs.GivingLaws.{giving_room, giving_part, placed_at, number-written, gap_long}
use Rattle.expander.proofs.giving.give_number.Goals as goal
use Rattle.expander.proofs.giving.give_number.Goals.{In_ok-length}

-- how long its text is
long : (c : In_ok-length) → length (written_in c.args.n.radix c.args.n.least c.args.n.value) ≡ c.in_ok-length.length
unfolding length_of
long c = search rules

pub returns-in_err-length : goal.returns-in_err-length
unfolding length_of
returns-in_err-length c = search rules

pub returns-in_err-at : goal.returns-in_err-at
returns-in_err-at c =
    let p = err_from_is_err_and c.from_residual-in_err-at.result c.from_residual-in_err-at.ensures.1 in
    rw (p.1, p.2) (λ a s b m r. giving_room r _ _ (long (goal.at.returns-in_err-at c).In_ok-length) (sym c.place_before.ensures ∙ c.in_err-at.was))

pub slice_bounds-write_number-count : goal.slice_bounds-write_number-count
slice_bounds-write_number-count c = let q = placed_at c.args.p.from _ (sym c.place_before.ensures ∙ c.in_ok-at.was) in omega (arith, q.is)

pub slice_bounds-write_number-start : goal.slice_bounds-write_number-start
slice_bounds-write_number-start c = let q = placed_at c.args.p.from _ (sym c.place_before.ensures ∙ c.in_ok-at.was) in omega (arith, q.is)

pub returns : goal.returns
returns c =
    let l = long (goal.at.returns c).In_ok-length in
    let k = sym c.place_before.ensures ∙ c.in_ok-at.was in
    λ a s b m r.
    giving_part r _ _ l k (number-written (rw (to_z-of_z w32 c.args.n.value (search rules)) at c.write_number.ensures) c.args.n.good_radix (l ∙ sym (gap_long c.args.pending.now c.args.p.from _ k r.source.from_in)))

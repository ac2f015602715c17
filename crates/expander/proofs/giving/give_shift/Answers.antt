-- `expander::giving::give_shift` meets its contract: the list is written at its place in the buffer. Assumes nothing.
use Rattle.rules.proofs.Base.{◌∙◌, sym, arith, rules}
use Rattle.std.proofs.lemmas.Result.{err_from_is_err_and}
use Rattle.expander.specs.Arguments.{args_of}
use Rattle.expander.proofs.SteppedLaws.{refines_as}
use Rattle.expander.proofs.GivingLaws.{giving_room, giving_filled, placed_at, shift_refines}
use Rattle.expander.proofs.giving.give_shift.Goals as goal

pub returns-in_err-at : goal.returns-in_err-at
returns-in_err-at c =
    let p = err_from_is_err_and c.from_residual.result c.from_residual.ensures.1 in
    rw (p.1, p.2)
    (λ a s b m r.
    refines_as (shift_refines s (args_of c.args.x) r.marks) (giving_room r _ _ (sym (c.list_length-n.ensures.0 44)) (sym c.place_before.ensures ∙ c.in_err-at.was)))

pub fill_list-requires : goal.fill_list-requires
fill_list-requires c =
    let q = placed_at c.args.p.from c.list_length-n.result (sym c.place_before.ensures ∙ c.in_ok-at.was) in record {
      short_quotes = (search rules, search rules);
      args_in_bounds = omega (arith, c.list_length-n.ensures.0 44, c.requires.valid_at.valid.represents.source.from_in, q.fits, q.is);
    }

pub returns : goal.returns
returns c =
    λ a s b m r.
    refines_as (shift_refines s (args_of c.args.x) r.marks)
    (giving_filled r _ _ (sym (c.list_length-n.ensures.0 44)) (sym c.place_before.ensures ∙ c.in_ok-at.was) c.fill_list.ensures)

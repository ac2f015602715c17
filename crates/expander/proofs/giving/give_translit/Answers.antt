-- `expander::giving::give_translit` meets its contract: the text is written into the part before the pending text. Assumes nothing.
use Rattle.rules.proofs.Base.{◌∙◌, ◌≡◌, refl, sym, ap, arith, length, rules}
use Rattle.std.proofs.lemmas.Result.{err_from_is_err_and}
use Rattle.matching.specs.Partners.{replaced}
use Rattle.rules.specs.Results.{transliterated}
use Rattle.expander.specs.Arguments.{args_of}
use Rattle.expander.proofs.Parts.{fitted_whole}
use Rattle.expander.proofs.GivingLaws.{giving_room, giving_part, placed_at, gap_long, table_is, translit_refines}
use Rattle.expander.proofs.SteppedLaws.{refines_by}
use Rattle.expander.proofs.giving.give_translit.Goals as goal
use Rattle.expander.proofs.giving.give_translit.Goals.{After-translit_length-n}

-- what the table makes of the text
made : (c : After-translit_length-n)
    → replaced c.partners_of-table.result c.argument-s.result.now ≡ transliterated c.argument-old.result.now c.argument-new.result.now c.argument-s.result.now
made c =
    table_is _ _ (search rules) (search rules) c.partners_of-table.ensures _

pub returns-in_err-at : goal.returns-in_err-at
returns-in_err-at c =
    let p = err_from_is_err_and c.from_residual.result c.from_residual.ensures.1 in
    let l = sym (c.translit_length-n.ensures ∙ ap length (made (goal.at.returns-in_err-at c).After-translit_length-n)) in
    rw (p.1, p.2)
    (λ a s b m r.
    refines_by (translit_refines s (args_of c.args.x) c.argument-s.ensures c.argument-old.ensures c.argument-new.ensures) refl
    (giving_room r _ _ l (sym c.place_before.ensures ∙ c.in_err-at.was)))

pub slice_bounds-translit-count : goal.slice_bounds-translit-count
slice_bounds-translit-count c = let q = placed_at c.args.p.from _ (sym c.place_before.ensures ∙ c.in_ok-at.was) in omega (arith, q.is)

pub slice_bounds-translit-start : goal.slice_bounds-translit-start
slice_bounds-translit-start c = let q = placed_at c.args.p.from _ (sym c.place_before.ensures ∙ c.in_ok-at.was) in omega (arith, q.is)

pub returns : goal.returns
returns c =
    let w = made (goal.at.returns c).After-translit_length-n in
    let l = sym (c.translit_length-n.ensures ∙ ap length w) in
    let k = sym c.place_before.ensures ∙ c.in_ok-at.was in
    λ a s b m r.
    refines_by (translit_refines s (args_of c.args.x) c.argument-s.ensures c.argument-old.ensures c.argument-new.ensures) refl
    (giving_part r _ _ l k (fitted_whole c.translit.ensures w (l ∙ sym (gap_long c.args.pending.now c.args.p.from _ k r.source.from_in))))

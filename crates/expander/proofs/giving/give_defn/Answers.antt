-- `expander::giving::give_defn` meets its contract: the texts are written into the part before the pending text. Assumes nothing.
use Rattle.rules.proofs.Base.{◌∙◌, sym, ap, arith, rules}
use Rattle.std.specs.Prelude.{Ok}
use Rattle.std.proofs.lemmas.Result.{err_from_is_err_and}
use Rattle.expander.specs.Arguments.{args_of}
use Rattle.expander.proofs.SteppedLaws.{refines_as}
use Rattle.expander.proofs.GivingLaws.{giving_answered, giving_yields, giving_room, giving_part, placed_at, gap_long, defn_refines, defn_measured, defn_unmeasured}
use Rattle.expander.proofs.DefnLaws.{same_text}
use Rattle.expander.proofs.giving.give_defn.Goals as goal

pub returns-in_err-n : goal.returns-in_err-n
returns-in_err-n c =
    let p = err_from_is_err_and c.from_residual.result c.from_residual.ensures.1 in
    rw (p.1, p.2)
    (λ a s b m r.
    refines_as (defn_refines s (args_of c.args.x) r.marks) (giving_answered _ r (defn_unmeasured _ (sym (c.defn_length.ensures s.table r.table) ∙ c.in_err-n.was))))

pub returns-in_err-at : goal.returns-in_err-at
returns-in_err-at c =
    let p = err_from_is_err_and c.from_residual-in_err-at.result c.from_residual-in_err-at.ensures.1 in
    rw (p.1, p.2)
    (λ a s b m r.
    let q = defn_measured _ c.in_ok-n.n (sym (c.defn_length.ensures s.table r.table) ∙ c.in_ok-n.was) in
    refines_as (defn_refines s (args_of c.args.x) r.marks ∙ giving_yields s q.is) (giving_room r q.text c.in_ok-n.n q.long (sym c.place_before.ensures ∙ c.in_err-at.was)))

pub slice_bounds-fill_defn-count : goal.slice_bounds-fill_defn-count
slice_bounds-fill_defn-count c = let q = placed_at c.args.p.from _ (sym c.place_before.ensures ∙ c.in_ok-at.was) in omega (arith, q.is)

pub slice_bounds-fill_defn-start : goal.slice_bounds-fill_defn-start
slice_bounds-fill_defn-start c = let q = placed_at c.args.p.from _ (sym c.place_before.ensures ∙ c.in_ok-at.was) in omega (arith, q.is)

pub fill_defn-requires : goal.fill_defn-requires
fill_defn-requires c =
    let represents = c.requires.valid_at.valid.represents in
    let l = gap_long c.args.pending.now c.args.p.from c.in_ok-n.n (sym c.place_before.ensures ∙ c.in_ok-at.was) represents.source.from_in in record {
      short_quotes = (search rules, search rules, represents.table.own_few);
      args_value = λ u t. sym (c.defn_length.ensures u t) ∙ c.in_ok-n.was ∙ ap Ok (sym l);
    }

pub returns : goal.returns
returns c =
    λ a s b m r.
    let q = defn_measured _ c.in_ok-n.n (sym (c.defn_length.ensures s.table r.table) ∙ c.in_ok-n.was) in
    refines_as (defn_refines s (args_of c.args.x) r.marks ∙ giving_yields s q.is)
    (giving_part r q.text c.in_ok-n.n q.long (sym c.place_before.ensures ∙ c.in_ok-at.was) (same_text (c.fill_defn.ensures s.table r.table) q.is))

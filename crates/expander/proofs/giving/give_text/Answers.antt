-- `expander::giving::give_text` meets its contract: the text is written into the part before the pending text. Assumes nothing.
use Rattle.rules.proofs.Base.{◌≤◌, ◌∙◌, sym, arith, length, rules}
use Rattle.std.proofs.lemmas.Result.{err_from_is_err_and}
use Rattle.expander.specs.Limits.{most_lent}
use Rattle.expander.specs.Arguments.{args_of}
use Rattle.expander.proofs.SteppedLaws.{refines_as}
use Rattle.expander.proofs.GivingLaws.{giving_room, giving_part, placed_at, gap_long, text_short, text_refines}
use Rattle.expander.proofs.giving.give_text.Goals as goal
use Rattle.expander.proofs.giving.give_text.Goals.{After-string-body}

body_short : (c : After-string-body) → length c.string-body.result.now ≤ most_lent
body_short c =
    let pre = c.requires in
    let h = pre.valid_at.valid.represents.table.holds in
    text_short h _ (omega (arith, pre.name_len_bound.1)) (c.string-body.ensures _ h.packs)

pub substituted_length-n-requires : goal.substituted_length-n-requires
substituted_length-n-requires c = (search rules, c.requires.name_len_bound.0, body_short (goal.at.substituted_length-n-requires c).After-string-body)

pub returns-in_err-at : goal.returns-in_err-at
returns-in_err-at c =
    let p = err_from_is_err_and c.from_residual.result c.from_residual.ensures.1 in
    rw (p.1, p.2)
    (λ a s b m r.
    refines_as (text_refines s (args_of c.args.x) r.marks _ (c.string-body.ensures _ r.table.holds.packs))
    (giving_room r _ _ (sym c.substituted_length-n.ensures) (sym c.place_before.ensures ∙ c.in_err-at.was)))

pub slice_bounds-fill_substituted-count : goal.slice_bounds-fill_substituted-count
slice_bounds-fill_substituted-count c = let q = placed_at c.args.p.from _ (sym c.place_before.ensures ∙ c.in_ok-at.was) in omega (arith, q.is)

pub slice_bounds-fill_substituted-start : goal.slice_bounds-fill_substituted-start
slice_bounds-fill_substituted-start c = let q = placed_at c.args.p.from _ (sym c.place_before.ensures ∙ c.in_ok-at.was) in omega (arith, q.is)

pub fill_substituted-requires : goal.fill_substituted-requires
fill_substituted-requires c =
    let l = gap_long c.args.pending.now c.args.p.from c.substituted_length-n.result (sym c.place_before.ensures ∙ c.in_ok-at.was) c.requires.valid_at.valid.represents.source.from_in in record {
      short_quotes = (search rules, c.requires.name_len_bound.0, body_short (goal.at.fill_substituted-requires c).After-string-body);
      dst_len = l ∙ c.substituted_length-n.ensures;
    }

pub returns : goal.returns
returns c =
    λ a s b m r.
    refines_as (text_refines s (args_of c.args.x) r.marks _ (c.string-body.ensures _ r.table.holds.packs))
    (giving_part r _ _ (sym c.substituted_length-n.ensures) (sym c.place_before.ensures ∙ c.in_ok-at.was) c.fill_substituted.ensures)

-- `expander::table::look_up_in` meets its contract: the newest definition, a text or a predefined meaning, else the name's own meaning. Assumes nothing.
use Rattle.rules.proofs.Base.{sym, ◌∙◌, ap, arith}
use Rattle.builtins.specs.Numbers.{candidate_in}
use Rattle.hashing.proofs.Laws.{bucket_below}
use Rattle.expander.proofs.Changing.{few_strings, found_strings}
use Rattle.expander.proofs.Rows.{represents_text, represents_copy, represents_own}
use Rattle.expander.proofs.table.look_up_in.Goals as goal

pub number_at-number-requires : goal.number_at-number-requires
number_at-number-requires c =
    let n = c.newest_in-place in
    let d = c.requires.some_definitions in
    let h = d.valid.holds in
    (h.ends_are, omega (arith, found_strings h c.args.name.now c.in-Some.i (sym (n.ensures d.packed d.valid.definitions h) ∙ c.in-Some.is), few_strings h))

pub returns-then-number-eq0 : goal.returns-then-number-eq0
returns-then-number-eq0 c =
    let n = c.newest_in-place in
    λ p t h. represents_text h c.args.name.now c.in-Some.i (sym (n.ensures p t.definitions h.holds) ∙ c.in-Some.is) c.number_at-number.ensures c.if-number-eq0.true

pub returns-else-number-eq0 : goal.returns-else-number-eq0
returns-else-number-eq0 c =
    let n = c.newest_in-place in
    λ p t h. represents_copy h c.args.name.now c.in-Some.i (sym (n.ensures p t.definitions h.holds) ∙ c.in-Some.is) c.number_at-number.ensures c.if-number-eq0.false

pub returns-in-None : goal.returns-in-None
returns-in-None c =
    let e = c.in-None.is in
    λ p t h. represents_own h c.args.name.now (sym (c.newest_in-place.ensures p t.definitions h.holds) ∙ e) c.own_meaning.ensures

pub candidate_at-requires : goal.candidate_at-requires
candidate_at-requires c = let h = c.requires.some_definitions.valid.holds in (h.ends_are, omega (arith, c.requires.bucket_value, bucket_below c.args.name.now), h.chained.candidates)

pub own_meaning-requires : goal.own_meaning-requires
own_meaning-requires c = c.candidate_at.ensures ∙ ap candidate_in c.requires.bucket_value

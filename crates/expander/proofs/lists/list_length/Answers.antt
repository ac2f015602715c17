-- `expander::lists::list_length` meets its contract: a list is as long as its strings, its gaps and its marks. Assumes nothing.
use Rattle.rules.proofs.Base.{◌+◌, ◌-◌, ◌∙◌, sym, ap, ◌≡◌, arith, length, rules}
use Rattle.rules.specs.Marks.{mark_texts}
use Rattle.expander.proofs.ArgumentLaws.{held_in, arguments_counted}
use Rattle.expander.proofs.ListLaws.{QuotesAre, quotes_are, Measured, list_measured, list_none, list_long}
use Rattle.expander.proofs.lists.list_length.Goals as goal
use Rattle.expander.proofs.lists.list_length.Goals.{After-count-have, After-start-start, Start}

-- the arguments, counted
counted : (c : After-count-have) → c.count-have.result ≡ c.args.x.strings.count - c.args.x.base
counted c = c.count-have.ensures ∙ sym (arguments_counted (held_in c.args.x))

quotes : (c : Start) → QuotesAre c.args.marks
quotes c = quotes_are c.args.marks (search rules) (search rules) c.requires.0

measured : (c : After-start-start) → let a = c.args in
    Measured a.x.strings.used c.start-start.result (c.count-have.result - a.skip) (a.marks.begin_quote.len + a.marks.end_quote.len)
measured c =
    let a = c.args in
    let n : c.count-have.result ≡ a.x.strings.count - a.x.base = c.count-have.ensures ∙ sym (arguments_counted (held_in a.x)) in
    list_measured (held_in a.x) (mark_texts a.marks) 0 a.skip _ _ _ (omega (arith, n)) (omega (arith, n)) c.start-start.ensures (omega (arith, c.requires.0.begin_most, c.requires.0.end_most))

pub returns-then-have-skip : goal.returns-then-have-skip
returns-then-have-skip c =
    let a = c.args in (
      λ gap. ap length (sym (list_none (held_in a.x) (mark_texts a.marks) gap a.skip (omega (arith, c.count-have.ensures)))),
      search rules,
    )

pub returns : goal.returns
returns c =
    let a = c.args in
    let q = quotes (goal.at.returns c).Start in
    let n = counted (goal.at.returns c).After-count-have in (
      λ gap.
          list_long (held_in a.x) (mark_texts a.marks) gap a.skip _ _ _ (omega (arith, n)) (omega (arith, n)) c.start-start.ensures (omega (arith, q.begin_is, q.end_is)),
      omega (arith, measured (goal.at.returns c).After-start-start),
    )

pub start-start-requires : goal.start-start-requires
start-start-requires c = omega (arith, counted (goal.at.start-start-requires c).After-count-have, (held_in c.args.x).packs.count_in)

pub overflow_sub-text : goal.overflow_sub-text
overflow_sub-text c = (measured (goal.at.overflow_sub-text c).After-start-start).started

pub overflow_mul-around : goal.overflow_mul-around
overflow_mul-around c = omega (arith, measured (goal.at.overflow_mul-around c).After-start-start)

pub overflow_add-result : goal.overflow_add-result
overflow_add-result c = omega (arith, measured (goal.at.overflow_add-result c).After-start-start)

pub overflow_add-result-2 : goal.overflow_add-result-2
overflow_add-result-2 c = omega (arith, measured (goal.at.overflow_add-result-2 c).After-start-start)

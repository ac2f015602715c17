-- `expander::lists::fill_quoted` meets its contract: three texts, one behind the other. Assumes nothing.
use Rattle.rules.proofs.Base.{◌+◌, ◌≡◌, arith, length, rules}
use Rattle.rules.specs.Marks.{mark_texts, quoted}
use Rattle.expander.proofs.FilledLaws.{filled_long}
use Rattle.expander.proofs.ListLaws.{QuotesAre, quotes_are, quoted_size, quoted_fills}
use Rattle.expander.proofs.lists.fill_quoted.Goals as goal
use Rattle.expander.proofs.lists.fill_quoted.Goals.{Start}

quotes : (c : Start) → QuotesAre c.args.marks
quotes c = quotes_are c.args.marks (search rules) (search rules) c.requires.0

size : (c : Start) → let a = c.args in length (quoted (mark_texts a.marks) a.s.now) ≡ a.marks.begin_quote.len + length a.s.now + a.marks.end_quote.len
size c = quoted_size (quotes c) c.args.s.now

pub fill_mark-text-requires : goal.fill_mark-text-requires
fill_mark-text-requires c =
    (c.requires.0.begin_most, omega (arith, c.requires.1, size (goal.at.fill_mark-text-requires c).Start))

pub overflow_add-end : goal.overflow_add-end
overflow_add-end c =
    omega (arith, c.requires.1, size (goal.at.overflow_add-end c).Start, c.fill_mark-text.ensures.1)

pub fill_slice-requires : goal.fill_slice-requires
fill_slice-requires c =
    let b = c.fill_mark-text.ensures in
    omega (arith, c.requires.1, size (goal.at.fill_slice-requires c).Start, b.1, filled_long b.0)

pub fill_mark-requires : goal.fill_mark-requires
fill_mark-requires c =
    let b = c.fill_mark-text.ensures in
    (c.requires.0.end_most, omega (arith, c.requires.1, size (goal.at.fill_mark-requires c).Start, b.1, filled_long b.0, filled_long c.fill_slice.ensures))

pub returns : goal.returns
returns c =
    let b = c.fill_mark-text.ensures in
    let e = c.fill_mark.ensures in
    (quoted_fills (quotes (goal.at.returns c).Start) c.args.s.now b.0 b.1 c.fill_slice.ensures e.0, omega (arith, size (goal.at.returns c).Start, b.1, e.1))

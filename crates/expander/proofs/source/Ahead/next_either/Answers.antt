-- `expander::source::Ahead::next_either` meets its contract. Assumes nothing.
use Rattle.rules.proofs.Base.{arith, length-append}
use Rattle.expander.proofs.Border.{plain_within, plain_short, next_rest, next_front, next_over}
use Rattle.expander.proofs.source.Ahead.next_either.Goals as goal

pub overflow_add-result : goal.overflow_add-result
overflow_add-result c =
    let a = c.args in
    omega (arith, length-append a.self.front.now a.self.rest.now, plain_short a.self.rest.now _ a.a a.b c.plain_length.result c.plain_length.ensures)

pub returns-then-n-i : goal.returns-then-n-i
returns-then-n-i c =
    let a = c.args in
    next_rest a.self.front.now a.self.rest.now a.i a.a a.b c.plain_length.result c.if-n-i.true c.requires c.plain_length.ensures

pub overflow_add-at : goal.overflow_add-at
overflow_add-at c =
    let a = c.args in
    omega (arith, plain_short a.self.front.now a.i a.a a.b c.plain_length-2.result c.plain_length-2.ensures)

pub returns-then-at-n : goal.returns-then-at-n
returns-then-at-n c =
    let a = c.args in
    let p = c.plain_length-2 in
    next_front a.self.front.now a.self.rest.now a.i a.a a.b p.result (omega arith) p.ensures c.if-at-n.true

pub overflow_add-result-2 : goal.overflow_add-result-2
overflow_add-result-2 c =
    let a = c.args in
    omega (arith, plain_within a.self.rest.now a.a a.b c.plain_length-3.result c.plain_length-3.ensures)

pub returns : goal.returns
returns c =
    let a = c.args in
    let p = c.plain_length-2 in
    next_over a.self.front.now a.self.rest.now a.i a.a a.b p.result (omega arith) p.ensures c.plain_length-3.result c.plain_length-3.ensures c.if-at-n.false

pub slice_bounds-plain_length-count : goal.slice_bounds-plain_length-count
slice_bounds-plain_length-count c = let a = c.args in omega (arith, length-append a.self.front.now a.self.rest.now)

pub slice_bounds-plain_length-start : goal.slice_bounds-plain_length-start
slice_bounds-plain_length-start c = let a = c.args in omega (arith, length-append a.self.front.now a.self.rest.now)

-- `expander::source::plain_length` meets its contract: the loop keeps that what was passed belongs to the count. Assumes nothing.
use Rattle.rules.proofs.Base.{◌∙◌, sym, ◌≡◌, arith, length, zero-add}
use Rattle.expander.specs.Ahead.{is_other, plain_length}
use Rattle.expander.proofs.Prefixes.{count_on, count_off, count_end, neither, is_first, is_second}
use Rattle.expander.proofs.source.plain_length.Goals as goal

pub returns-then-x-a : goal.returns-then-x-a
unfolding plain_length
returns-then-x-a c =
    let g = c.args in
    let l = c.loop-i in
    sym (count_off (is_other g.a g.b) g.s.now l.i c.loop-i-test.true (is_first _ _ _ c.if-x-a.true)) ∙ l.invariant

pub returns-then-x-b : goal.returns-then-x-b
unfolding plain_length
returns-then-x-b c =
    let g = c.args in
    let l = c.loop-i in
    sym (count_off (is_other g.a g.b) g.s.now l.i c.loop-i-test.true (is_second _ _ _ c.if-x-a.false c.if-x-b.true)) ∙ l.invariant

pub loop-i-preserved : goal.loop-i-preserved
unfolding plain_length
loop-i-preserved c =
    let g = c.args in
    let l = c.loop-i in
    sym (count_on (is_other g.a g.b) g.s.now l.i c.loop-i-test.true (neither _ _ _ c.if-x-a.false c.if-x-b.false)) ∙ l.invariant

pub returns : goal.returns
unfolding plain_length
returns c =
    let g = c.args in
    let l = c.loop-i in
    let e : length g.s.now ≡ l.i = omega arith in
    e ∙ sym (count_end (is_other g.a g.b) g.s.now l.i c.loop-i-test.false) ∙ l.invariant

pub loop-i-init : goal.loop-i-init
loop-i-init c = zero-add _

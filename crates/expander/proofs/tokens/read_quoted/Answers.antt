-- `expander::tokens::read_quoted` meets its contract: the loop keeps what the quoted text comes to from the place on. Assumes nothing.
use Rattle.rules.proofs.Base.{◌∙◌, refl, ap, ◌≡◌, arith}
use Rattle.rules.specs.Marks.{mark_text}
use Rattle.expander.specs.Source.{bytes_of}
use Rattle.expander.specs.Tokens.{quoted_from}
use Rattle.expander.proofs.Quotes.{quoted-closed, quoted_over, quoted_skips}
use Rattle.expander.proofs.tokens.read_quoted.Goals as goal
use Rattle.expander.proofs.tokens.read_quoted.Goals.{After-next_either-at}

-- what is kept, at the next place where a mark may stand
kept : (c : After-next_either-at)
    → (let a = c.args in quoted_from (mark_text a.begin) (mark_text a.end) (bytes_of a.ahead) c.loop-i.depth c.next_either-at.result)
    ≡ (let a = c.args in quoted_from (mark_text a.begin) (mark_text a.end) (bytes_of a.ahead) 1 c.mark_length-text.result)
kept c =
    let a = c.args in
    let l = c.loop-i in
    let b = c.first_byte-a.ensures in
    let e = c.first_byte-b.ensures in
    quoted_skips (mark_text a.begin) (mark_text a.end) (bytes_of a.ahead) l.i b.full e.full l.depth _ _ _ l.invariant.0 b.byte e.byte c.next_either-at.ensures
    ∙ l.invariant.2

pub passed-open-requires : goal.passed-open-requires
passed-open-requires c =
    let l = c.loop-i in
    record { begin_mark = c.requires.0; end_mark = c.requires.1; within = c.next_either-at.ensures.within; some = l.invariant.0; deep = omega arith }

pub returns-then-depth-eq0 : goal.returns-then-depth-eq0
returns-then-depth-eq0 c =
    let a = c.args in
    let text = bytes_of a.ahead in
    let o = c.passed-open in
    let b = c.mark_length-text.ensures.whole in
    quoted-closed (mark_text a.begin) (mark_text a.end) text o.result.place o.result.depth _ _ c.if-depth-eq0.true b c.mark_length.ensures.whole
    ∙ o.ensures.same
    ∙ kept (goal.at.returns-then-depth-eq0 c).After-next_either-at
    ∙ ap (quoted_from (mark_text a.begin) (mark_text a.end) text 1) b

pub returns : goal.returns
returns c =
    let a = c.args in
    let text = bytes_of a.ahead in
    let l = c.loop-i in
    quoted_over (mark_text a.begin) (mark_text a.end) text l.i l.depth l.invariant.0 (omega arith)
    ∙ l.invariant.2
    ∙ ap (quoted_from (mark_text a.begin) (mark_text a.end) text 1) c.mark_length-text.ensures.whole

pub loop-i-init : goal.loop-i-init
loop-i-init c = (omega arith, omega arith, refl)

pub overflow_sub-text_end : goal.overflow_sub-text_end
overflow_sub-text_end c = omega (arith, c.passed-open.ensures.closed c.if-depth-eq0.true)

pub loop-i-smaller : goal.loop-i-smaller
loop-i-smaller c = omega arith

pub loop-i-preserved : goal.loop-i-preserved
loop-i-preserved c = let o = c.passed-open in (omega arith, o.ensures.deep, o.ensures.same ∙ kept (goal.at.loop-i-preserved c).After-next_either-at)

-- `expander::tokens::comment_end` meets its contract: the loop keeps what the comment comes to from the place on. Assumes nothing.
use Rattle.rules.proofs.Base.{◌≤◌, ◌+◌, ℕ, ◌∙◌, sym, ap, ◌≡◌, arith, length}
use Rattle.rules.specs.Marks.{mark_text}
use Rattle.rules.specs.Tokens.{comment_to_end}
use Rattle.expander.specs.Source.{bytes_of}
use Rattle.expander.specs.Tokens.{comment_ending_at, comment_from}
use Rattle.expander.proofs.MarkPlaces.{mark_room}
use Rattle.expander.proofs.Comments.{ends_within, comment_here, comment_over, comment_skips, comment_on}
use Rattle.expander.proofs.tokens.comment_end.Goals as goal
use Rattle.expander.proofs.tokens.comment_end.Goals.{After-mark_length, After-next_either-at}

-- what is kept, at the next place where the end mark may stand
kept : (c : After-next_either-at)
    → (let a = c.args in comment_from (mark_text a.end) (bytes_of a.ahead) c.next_either-at.result)
    ≡ (let a = c.args in comment_from (mark_text a.end) (bytes_of a.ahead) a.from)
kept c =
    let a = c.args in
    let l = c.loop-i in
    let e = c.first_byte-a.ensures in
    comment_skips (mark_text a.end) (bytes_of a.ahead) l.i e.full _ _ e.byte c.next_either-at.ensures ∙ l.invariant

-- the end mark that stands at the place lies in the text
room : (c : After-mark_length)
    → (let a = c.args in c.next_either-at.result + length (mark_text a.end) ≤ length (bytes_of a.ahead))
room c =
    let a = c.args in
    let at = c.next_either-at in
    mark_room (mark_text a.end) (bytes_of a.ahead) at.result at.ensures.within (sym c.mark_at.ensures ∙ c.if-mark_at.true)

pub returns-then-mark_at : goal.returns-then-mark_at
returns-then-mark_at c =
    let a = c.args in
    let text = bytes_of a.ahead in
    let at = c.next_either-at.result in
    ap (λ (n : ℕ). comment_ending_at (length text) (at + n)) c.mark_length.ensures.whole
    ∙ sym (ends_within (length text) (at + length (mark_text a.end)) (room (goal.at.returns-then-mark_at c).After-mark_length))
    ∙ comment_here (mark_text a.end) text at (sym c.mark_at.ensures ∙ c.if-mark_at.true)
    ∙ kept (goal.at.returns-then-mark_at c).After-next_either-at

pub loop-i-preserved : goal.loop-i-preserved
loop-i-preserved c =
    let a = c.args in
    comment_on (mark_text a.end) (bytes_of a.ahead) c.next_either-at.result (sym c.mark_at.ensures ∙ c.if-mark_at.false) ∙ kept (goal.at.loop-i-preserved c).After-next_either-at

pub returns : goal.returns
returns c =
    let a = c.args in
    let text = bytes_of a.ahead in
    let l = c.loop-i in
    let n = c.len-n in
    ap (λ (k : ℕ). comment_ending_at k c.end_without_mark.result) (sym n.ensures.whole)
    ∙ c.end_without_mark.ensures
    ∙ ap (comment_to_end (mark_text a.end)) n.ensures.whole
    ∙ comment_over (mark_text a.end) text l.i c.first_byte-a.ensures.full (omega arith)
    ∙ l.invariant

pub overflow_add-result : goal.overflow_add-result
overflow_add-result c = omega (arith, room (goal.at.overflow_add-result c).After-mark_length)

pub overflow_add-i : goal.overflow_add-i
overflow_add-i c = omega arith

pub loop-i-smaller : goal.loop-i-smaller
loop-i-smaller c = omega arith

-- `expander::tokens::read_comment` meets its contract. Assumes nothing.
use Rattle.rules.proofs.Base.{◌∙◌, ap, ◌≡◌, arith, length}
use Rattle.rules.specs.Marks.{mark_text}
use Rattle.expander.specs.Source.{bytes_of}
use Rattle.expander.specs.Tokens.{comment_ending_at, comment_from}
use Rattle.expander.proofs.Comments.{ends_within, ends_beyond}
use Rattle.expander.proofs.tokens.read_comment.Goals as goal
use Rattle.expander.proofs.tokens.read_comment.Goals.{After-len}

-- the place that was given back says what the comment comes to
closed : (c : After-len)
    → (let a = c.args in let text = bytes_of a.ahead in comment_ending_at (length text) c.comment_end-behind.result ≡ comment_from (mark_text a.end) text (length (mark_text a.begin)))
closed c =
    let a = c.args in
    c.comment_end-behind.ensures ∙ ap (comment_from (mark_text a.end) (bytes_of a.ahead)) c.mark_length.ensures.whole

pub returns-then-len-behind : goal.returns-then-len-behind
returns-then-len-behind c =
    let text = bytes_of c.args.ahead in
    ends_beyond (length text) c.comment_end-behind.result (omega (arith, c.len.ensures.whole)) ∙ closed (goal.at.returns-then-len-behind c).After-len

pub returns : goal.returns
returns c =
    let text = bytes_of c.args.ahead in
    ends_within (length text) c.comment_end-behind.result (omega (arith, c.len.ensures.whole)) ∙ closed (goal.at.returns c).After-len

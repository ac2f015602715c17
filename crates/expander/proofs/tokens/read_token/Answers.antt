-- `expander::tokens::read_token` meets its contract. Assumes nothing.
use Rattle.rules.proofs.Base.{◌∙◌, sym, arith, length}
use Rattle.rules.specs.Marks.{mark_texts}
use Rattle.expander.specs.Source.{bytes_of}
use Rattle.expander.proofs.Reading.{token_end, token_comment, token_quoted, token_plain}
use Rattle.expander.proofs.Scanning.{no_name, hashed_as, comment_no_name, quoted_no_name}
use Rattle.expander.proofs.Within.{token_within}
use Rattle.expander.proofs.tokens.read_token.Goals as goal

pub returns-then-len-eq0 : goal.returns-then-len-eq0
returns-then-len-eq0 c =
    let a = c.args in
    let text = bytes_of a.ahead in
    let m = mark_texts a.marks in
    let w = token_within m text _ (token_end m text (omega arith)) in record { read = w.0; within = w.1; hashed = no_name text _ tt }

pub returns-then-stands : goal.returns-then-stands
unfolding mark_texts
returns-then-stands c =
    let a = c.args in
    let text = bytes_of a.ahead in
    let m = mark_texts a.marks in
    let w = token_within m text _ (c.read_comment.ensures ∙ token_comment m text (omega arith) (sym c.stands.ensures ∙ c.if-stands.true)) in record { read = w.0; within = w.1; hashed = hashed_as text _ c.read_comment.ensures (comment_no_name m.end_comment text (length m.begin_comment)) }

pub returns-then-stands-2 : goal.returns-then-stands-2
unfolding mark_texts
returns-then-stands-2 c =
    let a = c.args in
    let text = bytes_of a.ahead in
    let m = mark_texts a.marks in
    let w = token_within m text _ (c.read_quoted.ensures ∙ token_quoted m text (omega arith) (sym c.stands.ensures ∙ c.if-stands.false) (sym c.stands-2.ensures ∙ c.if-stands-2.true)) in record { read = w.0; within = w.1; hashed = hashed_as text _ c.read_quoted.ensures (quoted_no_name m.begin_quote m.end_quote text) }

pub returns : goal.returns
unfolding mark_texts
returns c =
    let a = c.args in
    let text = bytes_of a.ahead in
    let m = mark_texts a.marks in
    let w = token_within m text _ (c.read_plain.ensures.read ∙ token_plain m text (omega arith) (sym c.stands.ensures ∙ c.if-stands.false) (sym c.stands-2.ensures ∙ c.if-stands-2.false)) in record { read = w.0; within = w.1; hashed = c.read_plain.ensures.hashed }

-- `expander::tokens::comment_end` meets its contract: the loop keeps what the comment comes to from the place on. Assumes nothing.
use Rattle.rules.proofs.Base.{◌-◌, ◌≡◌, length}
use Rattle.rules.specs.Marks.{mark_text}
use Rattle.expander.specs.Source.{bytes_of}
use Rattle.expander.specs.Tokens.{comment_from}
use Rattle.expander.proofs.tokens.comment_end.Given as goal

abbrev pub invariant-loop-i : goal.invariant-loop-i
invariant-loop-i l = comment_from (mark_text l.end) (bytes_of l.ahead) l.i ≡ comment_from (mark_text l.end) (bytes_of l.ahead) l.from

abbrev pub decreases-loop-i : goal.decreases-loop-i
decreases-loop-i l = length (bytes_of l.ahead) - l.i

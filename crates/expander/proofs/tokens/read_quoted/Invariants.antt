-- `expander::tokens::read_quoted` meets its contract: the loop keeps what the quoted text comes to from the place on. Assumes nothing.
use Rattle.rules.proofs.Base.{◌≤◌, ◌-◌, ◌≡◌, length}
use Rattle.rules.specs.Marks.{mark_text}
use Rattle.expander.specs.Source.{bytes_of}
use Rattle.expander.specs.Tokens.{quoted_from}
use Rattle.expander.proofs.tokens.read_quoted.Given as goal

abbrev pub invariant-loop-i : goal.invariant-loop-i
invariant-loop-i l = (1 ≤ l.depth) × (l.depth ≤ l.i) × (quoted_from (mark_text l.begin) (mark_text l.end) (bytes_of l.ahead) l.depth l.i ≡ quoted_from (mark_text l.begin) (mark_text l.end) (bytes_of l.ahead) 1 l.initial.i)

abbrev pub decreases-loop-i : goal.decreases-loop-i
decreases-loop-i l = length (bytes_of l.ahead) - l.i

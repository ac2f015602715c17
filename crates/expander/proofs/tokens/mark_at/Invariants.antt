-- `expander::tokens::mark_at` meets its contract: the loop keeps that the rest of the mark stands further on just where the whole mark
-- stands at the place. Assumes nothing.
use Rattle.rules.proofs.Base.{◌+◌, ◌≡◌, drop}
use Rattle.rules.specs.Marks.{mark_text}
use Rattle.rules.specs.Tokens.{begins_with}
use Rattle.expander.specs.Source.{bytes_of}
use Rattle.expander.proofs.tokens.mark_at.Given as goal

abbrev pub invariant-loop-k : goal.invariant-loop-k
invariant-loop-k l = begins_with (drop l.k (mark_text l.m)) (drop (l.i + l.k) (bytes_of l.ahead)) ≡ begins_with (mark_text l.m) (drop l.i (bytes_of l.ahead))

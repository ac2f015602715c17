-- Where the first token of an operand stops: within the bytes that remain.
use Rattle.std.specs.Prelude.{ℕ, ◌<◌, ◌≤◌, Option, None, Some}
use Rattle.rules.specs.declared.Leading.{Leading}
use Rattle.rules.specs.declared.Leading.TheVariants.{Literal, Parenthesis, Sign}

-- a first token is at least a byte long, and ends within n bytes
abbrev pub LeadingWithin : ℕ → Option Leading → Type 0
LeadingWithin n None = Unit {0}
LeadingWithin n (Some (Literal at)) = at ≤ n
LeadingWithin n (Some (Parenthesis m)) = (0 < m) × (m ≤ n)
LeadingWithin n (Some (Sign u m)) = (0 < m) × (m ≤ n)

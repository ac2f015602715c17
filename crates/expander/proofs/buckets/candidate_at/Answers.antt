-- `expander::buckets::candidate_at` meets its contract: the upper bits of a word are read, which have the number of a predefined name. Assumes nothing.
use Rattle.rules.proofs.Base.{◌+◌, ◌/◌, ◌≡◌, ◌∙◌, arith, get_or}
use Rattle.std.specs.Option.{unwrap_or}
use Rattle.builtins.specs.Numbers.{candidate_in}
use Rattle.expander.specs.Limits.{heads_start}
use Rattle.expander.specs.Buckets.{candidate_at}
use Rattle.expander.proofs.Chains.{candidate_byte, candidate_told}
use Rattle.expander.proofs.buckets.candidate_at.Goals as goal
use Rattle.expander.proofs.buckets.candidate_at.Goals.{Start}

its_number : (c : Start) → get_or c.args.ends.now (heads_start + c.args.bucket) 0 / 131072 ≡ unwrap_or (candidate_in c.args.bucket) 0
unfolding candidate_at
its_number c = c.requires.2 c.args.bucket c.requires.1

pub overflow_cast-number : goal.overflow_cast-number
overflow_cast-number c = omega (arith, candidate_byte c.args.bucket (its_number (goal.at.overflow_cast-number c).Start))

pub returns : goal.returns
returns c = c.then_some.ensures ∙ candidate_told c.args.bucket (its_number (goal.at.returns c).Start)

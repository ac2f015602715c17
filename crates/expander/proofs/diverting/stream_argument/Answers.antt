-- `expander::diverting::stream_argument` meets its contract. Assumes nothing.
use Rattle.rules.proofs.Base.{◌∙◌, ap}
use Rattle.std.specs.Prelude.{ℕ, Option, unwrap_or}
use Rattle.expander.specs.Diverting.{stream_of}
use Rattle.expander.proofs.diverting.stream_argument.Goals as goal

pub returns : goal.returns
unfolding stream_of
returns c = c.unwrap_or.ensures ∙ ap (λ (o : Option ℕ). unwrap_or o 0) c.natural.ensures

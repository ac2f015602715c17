-- `expander::events::opens` meets its contract. Assumes nothing.
use Rattle.rules.proofs.Base.{ℕ, ◌∙◌, ap, eqb, get_or}
use Rattle.rules.specs.Bytes.{Bytes}
use Rattle.expander.proofs.SourceLaws.{lent_is}
use Rattle.expander.proofs.events.opens.Goals as goal

pub returns : goal.returns
returns c =
    λ x h. ap (λ (v : ℕ). eqb v 40) (c.byte.ensures ∙ ap (λ (l : Bytes). get_or l c.args.n 0) (lent_is h c.ahead.ensures))

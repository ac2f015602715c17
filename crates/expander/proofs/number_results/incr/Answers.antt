-- `expander::number_results::incr` meets its contract. Assumes nothing.
use Rattle.rules.proofs.Base.{◌∙◌, ap, Option, ℤ, ◌+ℤ◌, pos}
use Rattle.rules.specs.Results.{changed_number}
use Rattle.expander.specs.Arguments.{args_of}
use Rattle.expander.specs.Results.{answered}
use Rattle.expander.proofs.NumberResultLaws.{incr_is}
use Rattle.expander.proofs.number_results.incr.Goals as goal

pub returns : goal.returns
returns c =
    c.added.ensures
    ∙ ap answered (ap (λ (o : Option ℤ). changed_number (λ z. z +ℤ pos 1) o) c.number.ensures ∙ incr_is (args_of c.args.x))

-- `expander::number_results::decr` meets its contract. Assumes nothing.
use Rattle.rules.proofs.Base.{◌∙◌, ap, Option, ℤ, ◌+ℤ◌, negsuc}
use Rattle.rules.specs.Results.{changed_number}
use Rattle.expander.specs.Arguments.{args_of}
use Rattle.expander.specs.Results.{answered}
use Rattle.expander.proofs.NumberResultLaws.{decr_is}
use Rattle.expander.proofs.number_results.decr.Goals as goal

pub returns : goal.returns
returns c =
    c.added.ensures
    ∙ ap answered (ap (λ (o : Option ℤ). changed_number (λ z. z +ℤ negsuc 0) o) c.number.ensures ∙ decr_is (args_of c.args.x))

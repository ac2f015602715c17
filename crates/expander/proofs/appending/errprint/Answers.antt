-- `expander::appending::errprint` meets its contract. Assumes nothing.
use Rattle.rules.proofs.Base.{ap}
use Rattle.rules.specs.Arguments.{separated}
use Rattle.expander.specs.Arguments.{args_of}
use Rattle.expander.proofs.TextLaws.{errors_full, errors_more}
use Rattle.expander.proofs.appending.errprint.Goals as goal

pub returns-then-errors-at : goal.returns-then-errors-at
returns-then-errors-at c =
    let args = args_of c.args.x in
    λ a s b r. errors_full r args (ap (separated 32) (c.bare_marks-marks.ensures.1 args)) (c.list_length-n.ensures.0 32) c.if-errors-at.true c.refused.ensures

pub returns : goal.returns
returns c =
    let args = args_of c.args.x in
    λ a s b r.
    errors_more r args (ap (separated 32) (c.bare_marks-marks.ensures.1 args)) (c.list_length-n.ensures.0 32) c.fill_list.ensures c.with_errors.ensures c.on.ensures

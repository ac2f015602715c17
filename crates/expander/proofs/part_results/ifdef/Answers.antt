-- `expander::part_results::ifdef` meets its contract. Assumes nothing.
use borrow.Enum.Refused.{opened}
use Rattle.expander.specs.Arguments.{args_of}
use Rattle.expander.specs.Results.{part_text}
use Rattle.expander.proofs.PartResultLaws.{shows, ifdef_none, ifdef_some}
use Rattle.expander.proofs.part_results.ifdef.Goals as goal

pub returns-in-Undefined : goal.returns-in-Undefined
unfolding part_text
returns-in-Undefined c = λ u t. shows (ifdef_none (args_of c.args.x) u c.argument-name.ensures (c.look_up.ensures u t) c.in-Undefined.is) c.argument.ensures

pub returns-in_default : goal.returns-in_default
unfolding part_text
returns-in_default c =
    λ u t. shows (ifdef_some (args_of c.args.x) u c.argument-name.ensures (c.look_up.ensures u t) (opened c.in_default.in_default-own.keys2)) c.argument-in_default.ensures

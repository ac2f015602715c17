-- `expander::defining::undefine` meets its contract: each argument's turn. Assumes nothing.
use Rattle.rules.specs.Table.{undefined}
use Rattle.expander.specs.Arguments.{args_of}
use Rattle.expander.proofs.SteppedLaws.{refines_as}
use Rattle.expander.proofs.DefiningLaws.{undefine_is}
use Rattle.expander.proofs.defining.undefine.Goals as goal

pub in_turn-requires-clause-changes : goal.in_turn-requires-clause-changes
in_turn-requires-clause-changes c = (undefined, λ d p e w r p' e' m. m.1)

pub returns : goal.returns
returns c = λ a s b r. refines_as (undefine_is (args_of c.args.x) s) (c.in_turn.ensures undefined (λ d p e w r p' e' m. m.1) a s b r)

-- `expander::defining::popdef` meets its contract: each argument's turn. Assumes nothing.
use Rattle.rules.specs.Table.{popped}
use Rattle.expander.specs.Arguments.{args_of}
use Rattle.expander.proofs.SteppedLaws.{refines_as}
use Rattle.expander.proofs.DefiningLaws.{popdef_is}
use Rattle.expander.proofs.defining.popdef.Goals as goal

pub in_turn-requires-clause-changes : goal.in_turn-requires-clause-changes
in_turn-requires-clause-changes c = (popped, λ d p e w r p' e' m. m.1)

pub returns : goal.returns
returns c = λ a s b r. refines_as (popdef_is (args_of c.args.x) s) (c.in_turn.ensures popped (λ d p e w r p' e' m. m.1) a s b r)

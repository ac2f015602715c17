-- `expander::diverting::turn_count` meets its contract: nine without arguments. Assumes nothing.
use Rattle.rules.proofs.Base.{◌∙◌, sym}
use Rattle.expander.specs.Arguments.{args_of}
use Rattle.expander.proofs.UndivertOrder.{turns_none, turns_some}
use Rattle.expander.proofs.diverting.turn_count.Goals as goal

pub returns-then-n-eq0 : goal.returns-then-n-eq0
returns-then-n-eq0 c = turns_none (args_of c.args.x) (sym c.count-n.ensures ∙ c.if-n-eq0.true)

pub returns-else-n-eq0 : goal.returns-else-n-eq0
returns-else-n-eq0 c = c.count-n.ensures ∙ turns_some (args_of c.args.x) (λ q. c.if-n-eq0.false (c.count-n.ensures ∙ q))

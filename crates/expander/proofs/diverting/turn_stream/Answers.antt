-- `expander::diverting::turn_stream` meets its contract: the number of the turn itself without arguments. Assumes nothing.
use Rattle.rules.proofs.Base.{◌∙◌, sym}
use Rattle.expander.specs.Arguments.{args_of}
use Rattle.expander.proofs.UndivertOrder.{turn_none, turn_some}
use Rattle.expander.proofs.diverting.turn_stream.Goals as goal

pub returns-then-count-eq0 : goal.returns-then-count-eq0
returns-then-count-eq0 c = λ l. turn_none (args_of c.args.x) c.args.k (sym c.count.ensures ∙ c.if-count-eq0.true) l

pub returns : goal.returns
returns c =
    λ l. c.stream_argument.ensures ∙ turn_some (args_of c.args.x) c.args.k (λ q. c.if-count-eq0.false (c.count.ensures ∙ q)) l

-- `expander::diverting::m4exit` meets its contract. Assumes nothing.
use Rattle.rules.proofs.Base.{◌∙◌, ap}
use Rattle.expander.specs.declared.sinks.Sinks.{Sinks}
use Rattle.expander.specs.Arguments.{args_of}
use Rattle.expander.specs.Machine.{sinks_set}
use Rattle.expander.proofs.TextLaws.{exit_refused, exited}
use Rattle.expander.proofs.diverting.m4exit.Goals as goal

pub returns-in-None : goal.returns-in-None
returns-in-None c = λ a s b r. exit_refused r (args_of c.args.x) c.natural_or.ensures c.in-None.is c.refused.ensures

pub returns-in-Some : goal.returns-in-Some
returns-in-Some c =
    λ a s b r.
    exited r (args_of c.args.x) c.natural_or.ensures c.in-Some.code c.in-Some.is (c.with_sinks.ensures ∙ ap (λ (k : Sinks). sinks_set k c.args.m) c.emptied-k.ensures) c.with_wrap.ensures c.ended.ensures

-- `expander::diverting::names_streams` meets its contract: the loop keeps that the arguments left to try decide. Assumes nothing.
use Rattle.rules.proofs.Base.{◌∙◌, refl, sym, arith}
use Rattle.expander.specs.Arguments.{args_of}
use Rattle.expander.proofs.ArgumentLaws.{held_in, few_arguments}
use Rattle.expander.proofs.UndivertOrder.{named_on, named_not, named_all}
use Rattle.expander.proofs.diverting.names_streams.Goals as goal

pub loop-k-init : goal.loop-k-init
loop-k-init c = refl

pub stream_argument-requires : goal.stream_argument-requires
stream_argument-requires c = (omega arith, omega (arith, c.loop-k-test.true, c.count-k-end.ensures, few_arguments (held_in c.args.x)))

pub returns-then-stream_argument-eq0 : goal.returns-then-stream_argument-eq0
returns-then-stream_argument-eq0 c =
    named_not (args_of c.args.x) c.loop-k.k c.loop-k.invariant (omega (arith, c.count-k-end.ensures, c.loop-k-test.true)) (sym c.stream_argument.ensures ∙ c.if-stream_argument-eq0.true)

pub loop-k-preserved : goal.loop-k-preserved
loop-k-preserved c =
    named_on (args_of c.args.x) c.loop-k.k c.loop-k.invariant (omega (arith, c.count-k-end.ensures, c.loop-k-test.true)) (λ q. c.if-stream_argument-eq0.false (c.stream_argument.ensures ∙ q))

pub returns : goal.returns
returns c = named_all (args_of c.args.x) c.loop-k.k c.loop-k.invariant (omega (arith, c.count-k-end.ensures, c.loop-k-test.false))

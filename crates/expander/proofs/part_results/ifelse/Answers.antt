-- `expander::part_results::ifelse` meets its contract. The loop's invariant: the arguments from k on give what all give. The measure is how many are
-- left. Assumes nothing.
use Rattle.rules.proofs.Base.{arith, refl}
use Rattle.expander.specs.Arguments.{args_of}
use Rattle.expander.specs.Results.{part_text}
use Rattle.expander.proofs.ArgumentLaws.{held_in, few_arguments}
use Rattle.expander.proofs.PartResultLaws.{shows, choosing_begins, choosing_on, none_left, taken_left, other_left}
use Rattle.expander.proofs.part_results.ifelse.Goals as goal

pub loop-k-init : goal.loop-k-init
loop-k-init c = choosing_begins (args_of c.args.x)

pub alike-requires : goal.alike-requires
alike-requires c = (c.loop-k.invariant.low, omega (arith, c.loop-k.invariant.high))

pub overflow_add-k : goal.overflow_add-k
overflow_add-k c = omega (arith, c.loop-k.invariant.high)

pub argument-requires : goal.argument-requires
argument-requires c = (omega arith, omega (arith, c.loop-k.invariant.high))

pub returns-then-alike : goal.returns-then-alike
unfolding part_text
returns-then-alike c =
    shows (taken_left c.loop-k.invariant c.count-have.ensures c.loop-k-test.true c.alike.ensures c.if-alike.true) c.argument.ensures

pub overflow_add-k-in-loop-k : goal.overflow_add-k-in-loop-k
overflow_add-k-in-loop-k c = omega (arith, c.loop-k.invariant.high)

pub overflow_add-k-then-have-k : goal.overflow_add-k-then-have-k
overflow_add-k-then-have-k c = omega (arith, c.loop-k.invariant.high)

pub argument-requires-then-have-k : goal.argument-requires-then-have-k
argument-requires-then-have-k c = (omega arith, omega (arith, c.loop-k.invariant.high))

pub returns-then-have-k : goal.returns-then-have-k
unfolding part_text
returns-then-have-k c =
    shows (other_left c.loop-k.invariant c.count-have.ensures c.loop-k-test.true c.alike.ensures c.if-alike.false c.if-have-k.true) c.argument-then-have-k.ensures

pub loop-k-preserved : goal.loop-k-preserved
loop-k-preserved c =
    choosing_on c.loop-k.invariant c.count-have.ensures c.loop-k-test.true c.alike.ensures (few_arguments (held_in c.args.x)) c.if-alike.false (omega (arith, c.if-have-k.false))

pub returns : goal.returns
unfolding part_text
returns c = shows (none_left c.loop-k.invariant c.count-have.ensures (omega (arith, c.loop-k-test.false))) refl

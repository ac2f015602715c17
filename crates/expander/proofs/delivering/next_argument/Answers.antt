-- `expander::delivering::next_argument` meets its contract: too many arguments, or the next one begins. Assumes nothing.
use Rattle.rules.proofs.Base.{◌∙◌, refl, ap}
use Rattle.expander.specs.declared.machine.Progress.TheVariants as progress
use Rattle.expander.specs.Machine.{stepped}
use Rattle.expander.proofs.DeliveringLaws.{comma_many, comma_next}
use Rattle.expander.proofs.CallsLaws.{some_strings}
use Rattle.expander.proofs.SteppedLaws.{refines_by}
use Rattle.expander.proofs.MachineLaws.{top_call}
use Rattle.expander.proofs.delivering.next_argument.Goals as goal

pub returns-then-m-ge-MOST_ARGUMENTS : goal.returns-then-m-ge-MOST_ARGUMENTS
returns-then-m-ge-MOST_ARGUMENTS c =
    λ a s b x xs r q. refines_by refl c.refused.ensures (comma_many r x xs q c.if-m-ge-MOST_ARGUMENTS.true)

pub returns : goal.returns
returns c =
    let k = c.separated-k in
    λ a s b x xs r q.
    refines_by refl (c.on.ensures ∙ ap (stepped progress.On) c.with_calls.ensures)
    (comma_next r x xs q c.if-m-ge-MOST_ARGUMENTS.false (k.ensures c.args.calls.now x xs (top_call r q)) k.auto.ends k.auto.stack)

pub overflow_sub-m : goal.overflow_sub-m
overflow_sub-m c = some_strings c.requires.valid.represents.calls

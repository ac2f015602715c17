use Rattle.rules.proofs.Base.{refl}
use Rattle.rules.specs.State.{with_source, taking}
use Rattle.expander.specs.Events.{PlainWithin, PlainIs}
use Rattle.expander.specs.Machine.{text_at, pending_at, calls_at, sinks_at}
use Rattle.expander.proofs.PlainLaws.{plain_is, plain_within, one_taken, taken_valid, taken_open}
use Rattle.expander.proofs.StepLaws.{lends, some_calls}
use Rattle.expander.proofs.SteppedLaws.{stepped_on, refines_as}
use Rattle.expander.proofs.plain_steps.plain_step.Goals as goal

pub deliver-requires : goal.deliver-requires
unfolding PlainWithin
deliver-requires c = record { valid = lends c.requires.valid refl; reach = plain_within c.args.text.now c.args.pending.now c.args.m c.in-Deliver.is c.requires.plain_within }

pub emit_byte-requires : goal.emit_byte-requires
unfolding PlainWithin
emit_byte-requires c =
    lends (taken_valid c.requires.valid (plain_within c.args.text.now c.args.pending.now c.args.m c.in-Emit.is c.requires.plain_within) c.advanced-to.ensures c.with_source.ensures) refl

pub collect_byte-requires : goal.collect_byte-requires
unfolding PlainWithin
collect_byte-requires c =
    let w = plain_within c.args.text.now c.args.pending.now c.args.m c.in-Collect.is c.requires.plain_within in record { valid = lends (taken_valid c.requires.valid w.0 c.advanced-to-in-Collect.ensures c.with_source-in-Collect.ensures) refl; opens_nonzero = taken_open c.args.m c.with_source-in-Collect.ensures w.1 }

pub next_argument-requires : goal.next_argument-requires
unfolding PlainWithin
next_argument-requires c =
    let w = plain_within c.args.text.now c.args.pending.now c.args.m c.in-Separate.is c.requires.plain_within in record { valid = lends (taken_valid c.requires.valid w.0 c.advanced-to-in-Separate.ensures c.with_source-in-Separate.ensures) refl; opens_nonzero = taken_open c.args.m c.with_source-in-Separate.ensures w.1 }

pub open_call-requires : goal.open_call-requires
unfolding PlainWithin
open_call-requires c =
    let w = plain_within c.args.text.now c.args.pending.now c.args.m c.in-Open.is c.requires.plain_within in record { valid = lends c.requires.valid refl; reach = w.0; bucket_value = w.1 }

pub returns-in-Deliver : goal.returns-in-Deliver
unfolding PlainIs PlainWithin taking with_source
returns-in-Deliver c = λ a s b r h. refines_as (plain_is s c.in-Deliver.is h) (c.deliver.ensures a s b r)

pub returns-in-Emit : goal.returns-in-Emit
unfolding PlainIs PlainWithin taking with_source
returns-in-Emit c =
    let w = plain_within c.args.text.now c.args.pending.now c.args.m c.in-Emit.is c.requires.plain_within in λ a s b r h. refines_as (plain_is s c.in-Emit.is h) (c.emit_byte.ensures a (taking 1 s) (text_at _ (pending_at _ (calls_at _ _ _ b))) (one_taken r w c.advanced-to.ensures c.with_source.ensures))

pub returns-in-Collect : goal.returns-in-Collect
unfolding PlainIs PlainWithin taking with_source
returns-in-Collect c =
    let w = plain_within c.args.text.now c.args.pending.now c.args.m c.in-Collect.is c.requires.plain_within in λ a s b r h. let i = some_calls r w.1 in let g = plain_is s c.in-Collect.is h i.top i.rest i.is in refines_as g.1 (c.collect_byte.ensures a (taking 1 s) (text_at _ (pending_at _ (sinks_at _ _ _ b))) i.top i.rest (one_taken r w.0 c.advanced-to-in-Collect.ensures c.with_source-in-Collect.ensures) i.is g.0)

pub returns-in-Skip : goal.returns-in-Skip
unfolding PlainIs PlainWithin taking with_source
returns-in-Skip c = let w = plain_within c.args.text.now c.args.pending.now c.args.m c.in-Skip.is c.requires.plain_within in λ a s b r h. stepped_on (one_taken r w c.advanced-to-in-Skip.ensures c.with_source-in-Skip.ensures) (plain_is s c.in-Skip.is h) c.on.ensures

pub returns-in-Separate : goal.returns-in-Separate
unfolding PlainIs PlainWithin taking with_source
returns-in-Separate c =
    let w = plain_within c.args.text.now c.args.pending.now c.args.m c.in-Separate.is c.requires.plain_within in λ a s b r h. let i = some_calls r w.1 in refines_as (plain_is s c.in-Separate.is h i.top i.rest i.is) (c.next_argument.ensures a (taking 1 s) (text_at _ (pending_at _ (sinks_at _ _ _ b))) i.top i.rest (one_taken r w.0 c.advanced-to-in-Separate.ensures c.with_source-in-Separate.ensures) i.is)

pub returns-in-Open : goal.returns-in-Open
unfolding PlainIs PlainWithin taking with_source
returns-in-Open c = λ a s b r h. refines_as (plain_is s c.in-Open.is h) (c.open_call.ensures a s (sinks_at _ _ _ b) r)

pub shape_of-calls-in-Deliver : goal.shape_of-calls-in-Deliver
shape_of-calls-in-Deliver c = c.deliver.auto.calls

pub shape_of-ends-in-Deliver : goal.shape_of-ends-in-Deliver
shape_of-ends-in-Deliver c = c.deliver.auto.ends

pub shape_of-stack-in-Deliver : goal.shape_of-stack-in-Deliver
shape_of-stack-in-Deliver c = c.deliver.auto.stack

pub shape_of-streams-in-Deliver : goal.shape_of-streams-in-Deliver
shape_of-streams-in-Deliver c = c.deliver.auto.streams

pub shape_of-owners-in-Deliver : goal.shape_of-owners-in-Deliver
shape_of-owners-in-Deliver c = c.deliver.auto.owners

pub shape_of-output-in-Deliver : goal.shape_of-output-in-Deliver
shape_of-output-in-Deliver c = c.deliver.auto.output

pub shape_of-streams-in-Emit : goal.shape_of-streams-in-Emit
shape_of-streams-in-Emit c = c.emit_byte.auto.streams

pub shape_of-owners-in-Emit : goal.shape_of-owners-in-Emit
shape_of-owners-in-Emit c = c.emit_byte.auto.owners

pub shape_of-output-in-Emit : goal.shape_of-output-in-Emit
shape_of-output-in-Emit c = c.emit_byte.auto.output

pub shape_of-calls-in-Collect : goal.shape_of-calls-in-Collect
shape_of-calls-in-Collect c = c.collect_byte.auto.calls

pub shape_of-ends-in-Collect : goal.shape_of-ends-in-Collect
shape_of-ends-in-Collect c = c.collect_byte.auto.ends

pub shape_of-stack-in-Collect : goal.shape_of-stack-in-Collect
shape_of-stack-in-Collect c = c.collect_byte.auto.stack

pub shape_of-ends-in-Separate : goal.shape_of-ends-in-Separate
shape_of-ends-in-Separate c = c.next_argument.auto.ends

pub shape_of-stack-in-Separate : goal.shape_of-stack-in-Separate
shape_of-stack-in-Separate c = c.next_argument.auto.stack

pub shape_of-calls-in-Open : goal.shape_of-calls-in-Open
shape_of-calls-in-Open c = c.open_call.auto.calls

pub shape_of-ends-in-Open : goal.shape_of-ends-in-Open
shape_of-ends-in-Open c = c.open_call.auto.ends

pub shape_of-stack-in-Open : goal.shape_of-stack-in-Open
shape_of-stack-in-Open c = c.open_call.auto.stack

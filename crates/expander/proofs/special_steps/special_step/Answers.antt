use Rattle.rules.proofs.Base.{refl}
use Rattle.rules.specs.Answers.{unclosed_quote, unclosed_comment, fault_answer}
use Rattle.rules.specs.State.{with_source, taking}
use Rattle.expander.specs.Events.{NameFound, SpecialWithin, SpecialIs}
use Rattle.expander.specs.Machine.{Memory, input_at, pending_at, stack_at, calls_at, definitions_at, sinks_at, wrap_at, errors_at}
use Rattle.expander.proofs.PlainLaws.{special_is, special_within, one_taken, taken_valid, taken_open}
use Rattle.expander.proofs.StepLaws.{lends, some_calls}
use Rattle.expander.proofs.SteppedLaws.{stepped_refused, refines_as}
use Rattle.expander.proofs.special_steps.special_step.Goals as goal
use Rattle.expander.proofs.special_steps.special_step.Goals.{Start}

-- the memory lent
abbrev lent : Start → Memory → Memory
lent c b =
    let a = c.args in
    input_at a.text.now a.set.now
    (pending_at a.pending.now
    (calls_at a.calls.now a.ends.now a.stack.now
    (definitions_at a.definitions.now a.table_ends.now
    (sinks_at a.streams.now a.owners.now a.output.now (wrap_at a.wrap.now (errors_at a.errors.now b))))))

pub at_end-requires : goal.at_end-requires
unfolding SpecialWithin
at_end-requires c = record { valid = lends c.requires.valid_special.valid refl; from_value = special_within c.args.text.now c.args.pending.now c.args.m c.in-End.is c.requires.special_within }

pub close-requires : goal.close-requires
unfolding SpecialWithin
close-requires c = let w = special_within c.args.text.now c.args.pending.now c.args.m c.in-Close.is c.requires.special_within in record { valid = taken_valid c.requires.valid_special.valid w.0 c.advanced-to.ensures c.with_source.ensures; opens_nonzero = taken_open c.args.m c.with_source.ensures w.1; scratch_len = c.requires.scratch_len }

pub bare-requires : goal.bare-requires
unfolding SpecialWithin SpecialIs
bare-requires c =
    let p = c.requires.valid_special.valid in record { valid_name = record { valid = record { others = lent (goal.at.bare-requires c).Start p.others; setting = p.setting; state = p.state; represents = p.represents }; found = (special_is p.state c.in-Bare.is c.requires.valid_special.is).0 }; reach = special_within c.args.text.now c.args.pending.now c.args.m c.in-Bare.is c.requires.special_within; scratch_len = c.requires.scratch_len }

pub returns-in-End : goal.returns-in-End
unfolding SpecialIs SpecialWithin fault_answer taking with_source NameFound
returns-in-End c = λ a s b r h. refines_as (special_is s c.in-End.is h) (c.at_end.ensures a s (input_at _ _ (calls_at _ _ _ (definitions_at _ _ (errors_at _ b)))) r)

pub returns-in-OpenQuote : goal.returns-in-OpenQuote
unfolding SpecialIs SpecialWithin fault_answer taking with_source NameFound
returns-in-OpenQuote c = λ a s b r h. stepped_refused unclosed_quote (special_is s c.in-OpenQuote.is h) c.refused.ensures

pub returns-in-OpenComment : goal.returns-in-OpenComment
unfolding SpecialIs SpecialWithin fault_answer taking with_source NameFound
returns-in-OpenComment c = λ a s b r h. stepped_refused unclosed_comment (special_is s c.in-OpenComment.is h) c.refused-in-OpenComment.ensures

pub returns-in-Close : goal.returns-in-Close
unfolding SpecialIs SpecialWithin fault_answer taking with_source NameFound
returns-in-Close c =
    let w = special_within c.args.text.now c.args.pending.now c.args.m c.in-Close.is c.requires.special_within in λ a s b r h. let i = some_calls r w.1 in refines_as (special_is s c.in-Close.is h i.top i.rest i.is) (c.close.ensures a (taking 1 s) b i.top i.rest (one_taken r w.0 c.advanced-to.ensures c.with_source.ensures) i.is)

pub returns-in-Bare : goal.returns-in-Bare
unfolding SpecialIs SpecialWithin fault_answer taking with_source NameFound
returns-in-Bare c =
    λ a s b r h. let g = special_is s c.in-Bare.is h in refines_as g.1 (c.bare.ensures a s (stack_at _ b) _ r g.0)

pub shape_of-pending-in-End : goal.shape_of-pending-in-End
shape_of-pending-in-End c = c.at_end.auto.pending

pub shape_of-output-in-End : goal.shape_of-output-in-End
shape_of-output-in-End c = c.at_end.auto.output

pub shape_of-pending-in-Close : goal.shape_of-pending-in-Close
shape_of-pending-in-Close c = c.close.auto.pending

pub shape_of-definitions-in-Close : goal.shape_of-definitions-in-Close
shape_of-definitions-in-Close c = c.close.auto.definitions

pub shape_of-table_ends-in-Close : goal.shape_of-table_ends-in-Close
shape_of-table_ends-in-Close c = c.close.auto.table_ends

pub shape_of-streams-in-Close : goal.shape_of-streams-in-Close
shape_of-streams-in-Close c = c.close.auto.streams

pub shape_of-owners-in-Close : goal.shape_of-owners-in-Close
shape_of-owners-in-Close c = c.close.auto.owners

pub shape_of-wrap-in-Close : goal.shape_of-wrap-in-Close
shape_of-wrap-in-Close c = c.close.auto.wrap

pub shape_of-errors-in-Close : goal.shape_of-errors-in-Close
shape_of-errors-in-Close c = c.close.auto.errors

pub shape_of-output-in-Close : goal.shape_of-output-in-Close
shape_of-output-in-Close c = c.close.auto.output

pub shape_of-scratch-in-Close : goal.shape_of-scratch-in-Close
shape_of-scratch-in-Close c = c.close.auto.scratch

pub shape_of-pending-in-Bare : goal.shape_of-pending-in-Bare
shape_of-pending-in-Bare c = c.bare.auto.pending

pub shape_of-definitions-in-Bare : goal.shape_of-definitions-in-Bare
shape_of-definitions-in-Bare c = c.bare.auto.definitions

pub shape_of-table_ends-in-Bare : goal.shape_of-table_ends-in-Bare
shape_of-table_ends-in-Bare c = c.bare.auto.table_ends

pub shape_of-streams-in-Bare : goal.shape_of-streams-in-Bare
shape_of-streams-in-Bare c = c.bare.auto.streams

pub shape_of-owners-in-Bare : goal.shape_of-owners-in-Bare
shape_of-owners-in-Bare c = c.bare.auto.owners

pub shape_of-wrap-in-Bare : goal.shape_of-wrap-in-Bare
shape_of-wrap-in-Bare c = c.bare.auto.wrap

pub shape_of-errors-in-Bare : goal.shape_of-errors-in-Bare
shape_of-errors-in-Bare c = c.bare.auto.errors

pub shape_of-output-in-Bare : goal.shape_of-output-in-Bare
shape_of-output-in-Bare c = c.bare.auto.output

pub shape_of-scratch-in-Bare : goal.shape_of-scratch-in-Bare
shape_of-scratch-in-Bare c = c.bare.auto.scratch

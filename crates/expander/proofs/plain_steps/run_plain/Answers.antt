-- `expander::plain_steps::run_plain` meets its contract. Assumes nothing.
use Rattle.rules.proofs.Base.{◌∙◌, refl, le_trans, le_of_lt, le_refl, arith}
use Rattle.expander.specs.Events.{EventWithin, EventIs, PlainWithin, PlainIs}
use Rattle.expander.specs.Machine.{strings_at, definitions_at, sinks_at}
use Rattle.expander.specs.Run.{Reached}
use Rattle.expander.proofs.PlainLaws.{event_is, event_within, plain_goes, not_ended}
use Rattle.expander.proofs.RunLaws.{from_here, running_valid, run_spent, run_refused, recount, run_on, counted_on, one_less, none_left}
use Rattle.expander.proofs.plain_steps.run_plain.Invariants.{SameLengths}
use Rattle.expander.proofs.plain_steps.run_plain.Goals as goal
use Rattle.expander.proofs.plain_steps.run_plain.Goals.{After-event_ahead, After-plain_step-t}

-- no length has changed
kept_event : (c : After-event_ahead) → let o = c.loop-left in let a = c.args in SameLengths o.calls o.ends o.stack o.streams o.owners o.output c.event_ahead.new.scratch a.calls.now a.ends.now a.stack.now a.streams.now a.owners.now a.output.now a.scratch.now
kept_event c =
    let i = c.loop-left.invariant.2 in
    (i.0, i.1, i.2, i.3, i.4, i.5, c.event_ahead.auto.scratch ∙ i.6)

kept_plain : (c : After-plain_step-t) → let n = c.plain_step-t.new in let a = c.args in SameLengths n.calls n.ends n.stack n.streams n.owners n.output c.event_ahead.new.scratch a.calls.now a.ends.now a.stack.now a.streams.now a.owners.now a.output.now a.scratch.now
kept_plain c =
    let i = c.loop-left.invariant.2 in
    let k = c.plain_step-t.auto in
    (k.calls ∙ i.0, k.ends ∙ i.1, k.stack ∙ i.2, k.streams ∙ i.3, k.owners ∙ i.4, k.output ∙ i.5, c.event_ahead.auto.scratch ∙ i.6)

pub event_ahead-requires : goal.event_ahead-requires
event_ahead-requires c =
    let p = c.requires.valid in
    let u = c.loop-left.invariant.0 p.setting p.others _ 0 (from_here _ 0 p.represents) in record { valid = running_valid _ u refl; scratch_len = c.loop-left.invariant.2.6 ∙ c.requires.scratch_len }

pub returns-in-Special : goal.returns-in-Special
unfolding Reached EventWithin EventIs
returns-in-Special c =
    λ a b w count u.
    let o = c.loop-left in
    let v = o.invariant.0 a b w count u in
    let e = c.in-Special.is in
    record {
      few = o.invariant.1;
      reached = record {
        running = v;
        more = c.loop-left-test.true;
        within = event_within _ _ _ e c.event_ahead.ensures.within;
        is = event_is v.state e (c.event_ahead.ensures.is a v.state (strings_at o.calls o.ends (sinks_at o.streams o.owners o.output b)) v.represents);
      };
    }

pub plain_step-t-requires : goal.plain_step-t-requires
unfolding EventWithin
plain_step-t-requires c =
    let p = c.requires.valid in
    let u = c.loop-left.invariant.0 p.setting p.others _ 0 (from_here _ 0 p.represents) in
    record {
      valid = running_valid _ u refl;
      plain_within = event_within c.args.text.now c.args.pending.now c.loop-left.m c.in-Plain.is c.event_ahead.ensures.within;
    }

pub returns-in-Refused : goal.returns-in-Refused
unfolding Reached EventIs
returns-in-Refused c =
    λ a b w count u.
    let i = c.loop-left.invariant in
    let o = c.loop-left in
    let d = c.args in
    let v = i.0 a b w count u in
    let p : PlainIs v.state c.in-Plain.p = event_is v.state c.in-Plain.is (c.event_ahead.ensures.is a v.state (strings_at o.calls o.ends (sinks_at o.streams o.owners o.output b)) v.represents) in
    let g = c.plain_step-t.ensures a v.state (definitions_at d.definitions.now d.table_ends.now b) v.represents p in
    record { few = i.1; reached = run_refused v c.loop-left-test.true g _ c.in-Refused.is }

pub returns-in-Ended : goal.returns-in-Ended
unfolding EventWithin EventIs
returns-in-Ended c =
    λ a b w count u.
    let i = c.loop-left.invariant in
    let o = c.loop-left in
    let d = c.args in
    let v = i.0 a b w count u in
    let p : PlainIs v.state c.in-Plain.p = event_is v.state c.in-Plain.is (c.event_ahead.ensures.is a v.state (strings_at o.calls o.ends (sinks_at o.streams o.owners o.output b)) v.represents) in
    let g = c.plain_step-t.ensures a v.state (definitions_at d.definitions.now d.table_ends.now b) v.represents p in
    let h : PlainWithin c.args.text.now c.args.pending.now c.loop-left.m c.in-Plain.p = event_within c.args.text.now c.args.pending.now c.loop-left.m c.in-Plain.is c.event_ahead.ensures.within in
    absurd (not_ended (plain_goes v.represents c.in-Plain.p h p) g _ c.in-Ended.is)

pub loop-left-preserved : goal.loop-left-preserved
unfolding EventIs
loop-left-preserved c =
    let i = c.loop-left.invariant in
    let o = c.loop-left in
    let d = c.args in (
      λ a b w count u.
          let v = i.0 a b w count u in
          let p : PlainIs v.state c.in-Plain.p = event_is v.state c.in-Plain.is (c.event_ahead.ensures.is a v.state (strings_at o.calls o.ends (sinks_at o.streams o.owners o.output b)) v.represents) in
          let g = c.plain_step-t.ensures a v.state (definitions_at d.definitions.now d.table_ends.now b) v.represents p in
          recount (run_on v c.loop-left-test.true g c.in-On.is) _ (counted_on count i.1 c.loop-left-test.true),
      le_trans (le_of_lt (one_less (le_refl _) c.loop-left-test.true)) i.1,
      kept_plain (goal.at.loop-left-preserved c).After-plain_step-t,
    )

pub returns : goal.returns
unfolding Reached
returns c =
    λ a b w count u.
    let i = c.loop-left.invariant in
    record { few = i.1; reached = run_spent (i.0 a b w count u) (none_left c.loop-left-test.false) }

pub loop-left-init : goal.loop-left-init
loop-left-init c = (λ a b w count u. recount u _ (omega arith), le_refl _, (refl, refl, refl, refl, refl, refl, refl))

pub shape_of-calls-in-Special : goal.shape_of-calls-in-Special
shape_of-calls-in-Special c = (kept_event (goal.at.shape_of-calls-in-Special c).After-event_ahead).0

pub shape_of-ends-in-Special : goal.shape_of-ends-in-Special
shape_of-ends-in-Special c = (kept_event (goal.at.shape_of-ends-in-Special c).After-event_ahead).1

pub shape_of-stack-in-Special : goal.shape_of-stack-in-Special
shape_of-stack-in-Special c = (kept_event (goal.at.shape_of-stack-in-Special c).After-event_ahead).2

pub shape_of-streams-in-Special : goal.shape_of-streams-in-Special
shape_of-streams-in-Special c = (kept_event (goal.at.shape_of-streams-in-Special c).After-event_ahead).3

pub shape_of-owners-in-Special : goal.shape_of-owners-in-Special
shape_of-owners-in-Special c = (kept_event (goal.at.shape_of-owners-in-Special c).After-event_ahead).4

pub shape_of-output-in-Special : goal.shape_of-output-in-Special
shape_of-output-in-Special c = (kept_event (goal.at.shape_of-output-in-Special c).After-event_ahead).5

pub shape_of-scratch-in-Special : goal.shape_of-scratch-in-Special
shape_of-scratch-in-Special c = (kept_event (goal.at.shape_of-scratch-in-Special c).After-event_ahead).6

pub shape_of-calls-in-Refused : goal.shape_of-calls-in-Refused
shape_of-calls-in-Refused c = (kept_plain (goal.at.shape_of-calls-in-Refused c).After-plain_step-t).0

pub shape_of-ends-in-Refused : goal.shape_of-ends-in-Refused
shape_of-ends-in-Refused c = (kept_plain (goal.at.shape_of-ends-in-Refused c).After-plain_step-t).1

pub shape_of-stack-in-Refused : goal.shape_of-stack-in-Refused
shape_of-stack-in-Refused c = (kept_plain (goal.at.shape_of-stack-in-Refused c).After-plain_step-t).2

pub shape_of-streams-in-Refused : goal.shape_of-streams-in-Refused
shape_of-streams-in-Refused c = (kept_plain (goal.at.shape_of-streams-in-Refused c).After-plain_step-t).3

pub shape_of-owners-in-Refused : goal.shape_of-owners-in-Refused
shape_of-owners-in-Refused c = (kept_plain (goal.at.shape_of-owners-in-Refused c).After-plain_step-t).4

pub shape_of-output-in-Refused : goal.shape_of-output-in-Refused
shape_of-output-in-Refused c = (kept_plain (goal.at.shape_of-output-in-Refused c).After-plain_step-t).5

pub shape_of-scratch-in-Refused : goal.shape_of-scratch-in-Refused
shape_of-scratch-in-Refused c = (kept_plain (goal.at.shape_of-scratch-in-Refused c).After-plain_step-t).6

pub shape_of-calls-in-Ended : goal.shape_of-calls-in-Ended
shape_of-calls-in-Ended c = (kept_plain (goal.at.shape_of-calls-in-Ended c).After-plain_step-t).0

pub shape_of-ends-in-Ended : goal.shape_of-ends-in-Ended
shape_of-ends-in-Ended c = (kept_plain (goal.at.shape_of-ends-in-Ended c).After-plain_step-t).1

pub shape_of-stack-in-Ended : goal.shape_of-stack-in-Ended
shape_of-stack-in-Ended c = (kept_plain (goal.at.shape_of-stack-in-Ended c).After-plain_step-t).2

pub shape_of-streams-in-Ended : goal.shape_of-streams-in-Ended
shape_of-streams-in-Ended c = (kept_plain (goal.at.shape_of-streams-in-Ended c).After-plain_step-t).3

pub shape_of-owners-in-Ended : goal.shape_of-owners-in-Ended
shape_of-owners-in-Ended c = (kept_plain (goal.at.shape_of-owners-in-Ended c).After-plain_step-t).4

pub shape_of-output-in-Ended : goal.shape_of-output-in-Ended
shape_of-output-in-Ended c = (kept_plain (goal.at.shape_of-output-in-Ended c).After-plain_step-t).5

pub shape_of-scratch-in-Ended : goal.shape_of-scratch-in-Ended
shape_of-scratch-in-Ended c = (kept_plain (goal.at.shape_of-scratch-in-Ended c).After-plain_step-t).6

pub overflow_sub-left : goal.overflow_sub-left
overflow_sub-left c = omega (arith, c.loop-left-test.true)

pub loop-left-smaller : goal.loop-left-smaller
loop-left-smaller c = one_less (le_refl _) c.loop-left-test.true

pub shape_of-calls : goal.shape_of-calls
shape_of-calls c = c.loop-left.invariant.2.0

pub shape_of-ends : goal.shape_of-ends
shape_of-ends c = c.loop-left.invariant.2.1

pub shape_of-stack : goal.shape_of-stack
shape_of-stack c = c.loop-left.invariant.2.2

pub shape_of-streams : goal.shape_of-streams
shape_of-streams c = c.loop-left.invariant.2.3

pub shape_of-owners : goal.shape_of-owners
shape_of-owners c = c.loop-left.invariant.2.4

pub shape_of-output : goal.shape_of-output
shape_of-output c = c.loop-left.invariant.2.5

pub shape_of-scratch : goal.shape_of-scratch
shape_of-scratch c = c.loop-left.invariant.2.6

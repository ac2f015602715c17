-- `expander::events::byte_event` meets its contract. Assumes nothing.
use Rattle.rules.proofs.Base.{◌≤◌, ◌≡◌, arith}
use Rattle.rules.specs.declared.Token.TheVariants as token
use Rattle.rules.specs.Bytes.{Bytes}
use Rattle.rules.specs.Run.{Setting}
use Rattle.rules.specs.State.{State}
use Rattle.rules.specs.Step.{act, step}
use Rattle.expander.specs.declared.events.Role.{Role}
use Rattle.expander.specs.declared.events.Role.TheVariants as role
use Rattle.expander.specs.Events.{PlainWithin, EventWithin, EventIs}
use Rattle.expander.specs.Machine.{Memory, Represents, ahead_of, stack_at}
use Rattle.expander.proofs.EventLaws.{role_event, role_within, role_event_lem, emit_is}
use Rattle.expander.proofs.StepLaws.{depth_few}
use Rattle.expander.proofs.events.byte_event.Goals as goal
use Rattle.expander.proofs.events.byte_event.Goals.{After-role_of}

-- what the byte calls for in a call, by its role
met :
    (c : After-role_of) (w : Role) → c.role_of.result ≡ w
    → ((text pending : Bytes) → 1 ≤ ahead_of text pending c.args.m.source → EventWithin text pending c.args.m (role_event c.args.x w))
    × ((a : Setting) (s : State) (b : Memory) → Represents a (stack_at c.args.stack.now b) c.args.m s
    → step s ≡ act (token.Byte c.args.x) s → EventIs s (role_event c.args.x w))
met c w q = (
  λ text pending h. role_within text pending _ _ w (omega (arith, c.if-m-eq0.false)) h,
  λ a s b r e. role_event_lem r _ e c.depth-depth.ensures c.has_collected-collected.ensures c.role_of.ensures w q (omega (arith, c.if-m-eq0.false)),
)

pub returns-then-m-eq0 : goal.returns-then-m-eq0
unfolding EventWithin PlainWithin
returns-then-m-eq0 c = record { within = λ text pending h. h; is = λ a s b r e. emit_is r _ e c.if-m-eq0.true }

pub role_of-requires : goal.role_of-requires
role_of-requires c =
    depth_few c.requires.represents _ (omega (arith, c.if-m-eq0.false)) c.depth-depth.ensures

pub returns-in-Dropped : goal.returns-in-Dropped
unfolding role_event
returns-in-Dropped c =
    let w = met (goal.at.returns-in-Dropped c).After-role_of role.Dropped c.in-Dropped.is in
    record { within = w.0; is = w.1 }

pub returns-in-Collected : goal.returns-in-Collected
unfolding role_event
returns-in-Collected c =
    let w = met (goal.at.returns-in-Collected c).After-role_of (role.Collected _) c.in-Collected.is in
    record { within = w.0; is = w.1 }

pub returns-in-Closes : goal.returns-in-Closes
unfolding role_event
returns-in-Closes c =
    let w = met (goal.at.returns-in-Closes c).After-role_of role.Closes c.in-Closes.is in
    record { within = w.0; is = w.1 }

pub returns-in-Separates : goal.returns-in-Separates
unfolding role_event
returns-in-Separates c =
    let w = met (goal.at.returns-in-Separates c).After-role_of role.Separates c.in-Separates.is in
    record { within = w.0; is = w.1 }

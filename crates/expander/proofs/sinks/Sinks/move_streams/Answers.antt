-- `expander::sinks::Sinks::move_streams` meets its contract: the loop keeps what the turns before made, for all streams and arguments that the buffers may hold. Assumes nothing.
use Rattle.rules.proofs.Base.{◌<◌, ◌∙◌, refl, sym, subst, arith, length}
use Rattle.expander.specs.Arguments.{args_of}
use Rattle.expander.specs.Streams.{IsStream}
use Rattle.expander.specs.Diverting.{turns}
use Rattle.expander.proofs.DivertingLaws.{turning_begins, turning_fits, turning_on, turning_ends}
use Rattle.expander.proofs.ArgumentLaws.{held_in}
use Rattle.expander.proofs.UndivertOrder.{turn_each, few_turns}
use Rattle.expander.proofs.sinks.Sinks.move_streams.Goals as goal
use Rattle.expander.proofs.sinks.Sinks.move_streams.Goals.{In-loop-j}

-- this turn is one of those that arguments name
in_turn_lem : (c : In-loop-j) → c.loop-j.j < length (turns (args_of c.args.x))
in_turn_lem c = omega (arith, c.loop-j-test.true, c.turn_count-j-end.ensures)

pub loop-j-init : goal.loop-j-init
loop-j-init c =
    (refl, refl, refl, refl, λ u m. turning_begins c.args.seen.now (turns (args_of c.args.x)) m c.requires.seen_value)

pub turn_stream-i-requires : goal.turn_stream-i-requires
turn_stream-i-requires c = omega (arith, in_turn_lem (goal.at.turn_stream-i-requires c).In-loop-j, few_turns (held_in c.args.x))

pub move_new-k-requires : goal.move_new-k-requires
move_new-k-requires c =
    let k = c.requires.some_sinks in
    let i = c.loop-j in
    let t = i.invariant.4 k.held k.are in
    let h = in_turn_lem (goal.at.move_new-k-requires c).In-loop-j in
    let each = turn_each (args_of c.args.x) c.requires.all_named in
    let s = c.turn_stream-i in
    let q = s.ensures h in (
      record {
        held = t.held;
        are = t.are;
        fits = turning_fits t h s.result q each (omega (arith, i.invariant.2, k.fits));
        room = omega (arith, i.invariant.0, i.invariant.3, k.room);
      },
      subst IsStream (sym q) (each i.j h),
    )

pub loop-j-preserved : goal.loop-j-preserved
loop-j-preserved c =
    let s = c.turn_stream-i in
    let i = c.loop-j in
    let r = c.move_new-k in (
      r.auto.streams ∙ i.invariant.0,
      r.auto.owners ∙ i.invariant.1,
      r.auto.output ∙ i.invariant.2,
      r.auto.scratch ∙ i.invariant.3,
      λ u m.
          let t = i.invariant.4 u m in
          let o = in_turn_lem (goal.at.loop-j-preserved c).In-loop-j in
          turning_on t o s.result (s.ensures o) (r.ensures t.held t.are t.marked),
    )

pub returns : goal.returns
returns c =
    λ u m. turning_ends (c.loop-j.invariant.4 u m) (omega (arith, c.loop-j-test.false, c.turn_count-j-end.ensures))

pub shape_of-streams : goal.shape_of-streams
shape_of-streams c = c.loop-j.invariant.0

pub shape_of-owners : goal.shape_of-owners
shape_of-owners c = c.loop-j.invariant.1

pub shape_of-output : goal.shape_of-output
shape_of-output c = c.loop-j.invariant.2

pub shape_of-scratch : goal.shape_of-scratch
shape_of-scratch c = c.loop-j.invariant.3

-- `expander::diverting::count_streams` meets its contract: the loop keeps what the turns before add, for all streams and arguments that the buffers may hold. Assumes nothing.
use Rattle.expander.specs.Limits.{most_lent}
use Rattle.rules.proofs.Base.{◌≤◌, ◌+◌, ℕ, ◌<◌, sym, subst, subst₂, List, arith, length, get_or}
use Rattle.expander.specs.Arguments.{args_of}
use Rattle.expander.specs.Streams.{IsStream}
use Rattle.expander.specs.Diverting.{turns}
use Rattle.expander.proofs.Fitting.{Counting, count_less, counting_begins, counting_on, counting_ends}
use Rattle.expander.proofs.ArgumentLaws.{held_in}
use Rattle.expander.proofs.UndivertOrder.{turn_each, few_turns}
use Rattle.expander.proofs.diverting.count_streams.Goals as goal
use Rattle.expander.proofs.diverting.count_streams.Goals.{After-turn_stream, In-loop-j}

-- this turn is one of those that arguments name
in_turn_lem : (c : In-loop-j) → c.loop-j.j < length (turns (args_of c.args.x))
in_turn_lem c = omega (arith, c.loop-j-test.true, c.turn_count-j-end.ensures)

-- and they are few
few : (c : In-loop-j) → c.loop-j.j < 320
few c = omega (arith, in_turn_lem c, few_turns (held_in c.args.x))

is_stream : (c : After-turn_stream) → IsStream c.turn_stream.result
is_stream c =
    let h : c.loop-j.j < length (turns (args_of c.args.x)) = omega (arith, c.loop-j-test.true, c.turn_count-j-end.ensures) in
    subst IsStream (sym (c.turn_stream.ensures h)) (turn_each (args_of c.args.x) c.requires.all_named c.loop-j.j h)

pub overflow_add-sum : goal.overflow_add-sum
overflow_add-sum c =
    let i = c.loop-j in
    omega (arith, few (goal.at.overflow_add-sum c).In-loop-j, i.invariant.0, c.count_out-sum.ensures.0, i.invariant.1 c.turn_stream.result (omega (arith, (is_stream (goal.at.overflow_add-sum c).After-turn_stream).high)))

pub loop-j-preserved : goal.loop-j-preserved
loop-j-preserved c =
    let i = c.loop-j in
    let n = c.turn_stream.result in
    let r = c.count_out-sum.ensures in (
      omega (arith, i.invariant.0, r.0, i.invariant.1 n (omega (arith, (is_stream (goal.at.loop-j-preserved c).After-turn_stream).high))),
      λ k q. subst (λ (ns : List ℕ). get_or ns k 0 ≤ most_lent) (sym r.1) (omega (arith, count_less i.counts n k, i.invariant.1 k q)),
      λ u m.
          let o = in_turn_lem (goal.at.loop-j-preserved c).In-loop-j in
          subst₂ (λ (ns : List ℕ) (k : ℕ). Counting ns (turns (args_of c.args.x)) (i.j + 1) (i.sum + k) u) (sym r.1) (sym r.0)
          (counting_on (i.invariant.2 u m) o n (c.turn_stream.ensures o) (is_stream (goal.at.loop-j-preserved c).After-turn_stream)),
    )

pub returns : goal.returns
returns c =
    λ u l. counting_ends (c.loop-j.invariant.2 u l) (omega (arith, c.loop-j-test.false, c.turn_count-j-end.ensures))

pub loop-j-init : goal.loop-j-init
loop-j-init c = (omega arith, c.requires.by_index, λ u l. counting_begins (turns (args_of c.args.x)) l)

pub turn_stream-requires : goal.turn_stream-requires
turn_stream-requires c = omega (arith, few (goal.at.turn_stream-requires c).In-loop-j)

pub count_out-sum-requires : goal.count_out-sum-requires
count_out-sum-requires c = is_stream (goal.at.count_out-sum-requires c).After-turn_stream

-- `expander::streams::move_stream` meets its contract: nothing to move, or `carry` does it. Assumes nothing.
use Rattle.rules.proofs.Base.{◌≤◌, ◌∙◌, sym, subst, arith, length, take, length-take, length-take-le}
use Rattle.expander.proofs.OwnedBytes.{owned_within}
use Rattle.expander.specs.Streams.{StreamsIn}
use Rattle.expander.proofs.Waiting.{length_of_lem, nothing-moved}
use Rattle.expander.proofs.streams.move_stream.Goals as goal
use Rattle.expander.proofs.streams.move_stream.Goals.{After-count-n}

-- what is counted has room in the scratch
room : (c : After-count-n) → c.count-n.result ≤ length c.args.scratch.now
room c =
    let a = c.args in
    omega (arith, c.count-n.ensures, owned_within a.i (take a.used a.owners.now), length-take a.used a.owners.now)

pub returns-then-n-eq0 : goal.returns-then-n-eq0
returns-then-n-eq0 c = λ ws s t d m.
    let a = c.args in
    subst (StreamsIn a.bytes.now a.owners.now a.used) (sym (nothing-moved ws a.i a.j (length_of_lem m a.i s ∙ sym c.count-n.ensures ∙ c.if-n-eq0.true))) m

pub slice_bounds-carry-end-2 : goal.slice_bounds-carry-end-2
slice_bounds-carry-end-2 c = omega (arith, room (goal.at.slice_bounds-carry-end-2 c).After-count-n, length-take c.count-n.result c.args.scratch.now)

pub carry-requires : goal.carry-requires
carry-requires c =
    let a = c.args in
    let n = c.count-n in record { used_in_bounds = (omega arith, omega arith); text_len = length-take-le n.result a.scratch.now (omega (arith, room (goal.at.carry-requires c).After-count-n)) ∙ n.ensures }

pub slice_bounds-carry-end : goal.slice_bounds-carry-end
slice_bounds-carry-end c = omega (arith, room (goal.at.slice_bounds-carry-end c).After-count-n)

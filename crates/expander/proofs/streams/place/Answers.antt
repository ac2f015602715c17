-- `expander::streams::place` meets its contract: the loop keeps where each stream goes on and what stands of it. Assumes nothing.
use Rattle.rules.proofs.Base.{◌<◌, arith, length, get_or, length-take}
use Rattle.expander.specs.Streams.{IsStream}
use Rattle.expander.proofs.Placing.{place_first, place_room, place_turn, place_end}
use Rattle.expander.proofs.streams.place.Goals as goal
use Rattle.expander.proofs.streams.place.Goals.{In-loop-k}

numbered : (c : In-loop-k) → IsStream (get_or c.args.owners.now c.loop-k.k 0)
numbered c = c.requires.owned.numbered c.loop-k.k (omega arith)

-- the place of a byte lies in dst
room : (c : In-loop-k) → get_or c.loop-k.next (get_or c.args.owners.now c.loop-k.k 0) 0 < length c.loop-k.dst
room c =
    let l = c.loop-k in
    place_room c.requires.owned l.next l.dst l.k l.invariant (omega arith)

pub loop-k-init : goal.loop-k-init
loop-k-init c =
    let a = c.args in
    place_first a.bytes.now a.owners.now a.used a.next.now a.dst.now (omega arith) c.requires.dst_len c.requires.ten

pub overflow_add-next : goal.overflow_add-next
overflow_add-next c =
    let a = c.args in
    omega (arith, room (goal.at.overflow_add-next c).In-loop-k, c.loop-k.invariant.size, length-take a.used a.owners.now)

pub loop-k-preserved : goal.loop-k-preserved
loop-k-preserved c =
    let l = c.loop-k in
    place_turn c.requires.owned l.next l.dst l.k l.invariant (omega arith)

pub shape_of-dst : goal.shape_of-dst
shape_of-dst c =
    let a = c.args in
    omega (arith, c.loop-k.invariant.size, length-take a.used a.owners.now)

pub returns : goal.returns
returns c = λ ws m. place_end m c.loop-k.next c.loop-k.dst c.loop-k.k c.loop-k.invariant (omega arith)

pub overflow_cast-o : goal.overflow_cast-o
overflow_cast-o c = omega (arith, numbered (goal.at.overflow_cast-o c).In-loop-k)

pub offset_bounds-next-o : goal.offset_bounds-next-o
offset_bounds-next-o c = omega (arith, numbered (goal.at.offset_bounds-next-o c).In-loop-k)

pub bounds-next-o : goal.bounds-next-o
bounds-next-o c = omega (arith, numbered (goal.at.bounds-next-o c).In-loop-k)

pub bounds-dst-at : goal.bounds-dst-at
bounds-dst-at c = room (goal.at.bounds-dst-at c).In-loop-k

pub offset_bounds-next-o-in-loop-k : goal.offset_bounds-next-o-in-loop-k
offset_bounds-next-o-in-loop-k c = omega (arith, numbered (goal.at.offset_bounds-next-o-in-loop-k c).In-loop-k)

pub bounds-next-o-in-loop-k : goal.bounds-next-o-in-loop-k
bounds-next-o-in-loop-k c = omega (arith, numbered (goal.at.bounds-next-o-in-loop-k c).In-loop-k)

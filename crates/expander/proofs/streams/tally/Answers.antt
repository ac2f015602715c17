-- `expander::streams::tally` meets its contract: the loop keeps what each stream was given and what is left. Assumes nothing.
use Rattle.rules.proofs.Base.{◌<◌, ◌≡◌, arith, take, get_or, length-take, get_or-take}
use Rattle.expander.proofs.Placing.{tally_none, tally_on, tally_within, tally_end}
use Rattle.expander.proofs.streams.tally.Goals as goal
use Rattle.expander.proofs.streams.tally.Goals.{In-loop-o}

-- the owner at the place, as the whole list has it
read : (c : In-loop-o) → get_or (take c.args.used c.args.owners.now) c.loop-o.o-index 0 ≡ get_or c.args.owners.now c.loop-o.o-index 0
read c = get_or-take c.args.used c.args.owners.now c.loop-o.o-index 0 (omega (arith, length-take c.args.used c.args.owners.now))

numbered : (c : In-loop-o) → get_or c.args.owners.now c.loop-o.o-index 0 < 10
numbered c = c.requires.used_in_bounds.1 c.loop-o.o-index (omega (arith, length-take c.args.used c.args.owners.now))

pub overflow_add-counts : goal.overflow_add-counts
overflow_add-counts c =
    let a = c.args in
    let l = c.loop-o in
    let d = (goal.at.overflow_add-counts c).In-loop-o in
    rw (read d) (omega (arith, tally_within a.used a.owners.now l.counts l.o-index l.invariant (omega arith) (omega (arith, length-take a.used a.owners.now)) (numbered d)))

pub loop-o-preserved : goal.loop-o-preserved
loop-o-preserved c =
    let a = c.args in
    let l = c.loop-o in
    let d = (goal.at.loop-o-preserved c).In-loop-o in
    rw (read d) (tally_on a.used a.owners.now l.counts l.o-index l.invariant (omega arith) (omega (arith, length-take a.used a.owners.now)) (numbered d))

pub returns : goal.returns
returns c =
    let a = c.args in
    let l = c.loop-o in
    tally_end a.used a.owners.now l.counts l.o-index l.invariant (omega arith) (omega (arith, length-take a.used a.owners.now))

pub loop-o-init : goal.loop-o-init
loop-o-init c = tally_none c.args.used c.args.owners.now c.args.counts.now c.requires.counts_value

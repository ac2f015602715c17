-- `expander::packed::rebase` meets its contract: a turn writes one more of the ends that move. Assumes nothing.
use Rattle.rules.proofs.Base.{◌+◌, ◌-◌, ◌<◌, ◌∙◌, sym, ap, ◌≡◌, map, arith, length, drop, take, get_or}
use Rattle.expander.specs.Packed.{rebased}
use Rattle.expander.proofs.Overwriting.{mapped_length, mapped_read, behind, one_more, all_there}
use Rattle.expander.proofs.packed.rebase.Goals as goal
use Rattle.expander.proofs.packed.rebase.Goals.{In-loop-j, Start}

long : (c : Start) → length (map (rebased c.args.less c.args.more) (drop c.args.from (take c.args.count c.args.ends.now))) ≡ c.args.count - c.args.from
long c = mapped_length (rebased c.args.less c.args.more) c.args.ends.now c.args.from c.args.count (omega arith)

-- what a turn reads is as at entry
read : (c : In-loop-j)
    → get_or c.loop-j.ends (c.args.from + c.loop-j.j) 0 ≡ get_or c.args.ends.now (c.args.from + c.loop-j.j) 0
read c = behind c.loop-j.invariant (c.args.from + c.loop-j.j) (omega arith)

fits_for : (c : In-loop-j)
    → get_or c.loop-j.ends (c.args.from + c.loop-j.j) 0 - c.args.less + c.args.more < 4294967296
unfolding rebased
fits_for c =
    omega (arith, read c, c.requires.by_index (c.args.from + c.loop-j.j) (omega arith) (omega arith))

pub loop-j-preserved : goal.loop-j-preserved
unfolding rebased
loop-j-preserved c =
    let l = c.loop-j in
    let a = c.args in
    one_more l.invariant _ (omega (arith, long (goal.at.loop-j-preserved c).Start))
    (ap (rebased a.less a.more) (read (goal.at.loop-j-preserved c).In-loop-j) ∙ sym (mapped_read (rebased a.less a.more) a.ends.now a.from a.count l.j (omega arith) (omega arith)))

pub returns : goal.returns
returns c = all_there c.loop-j.invariant (omega (arith, long (goal.at.returns c).Start))

pub overflow_add-moved : goal.overflow_add-moved
overflow_add-moved c = omega (arith, fits_for (goal.at.overflow_add-moved c).In-loop-j)

pub overflow_cast-ends : goal.overflow_cast-ends
overflow_cast-ends c = record { fits = fits_for (goal.at.overflow_cast-ends c).In-loop-j }

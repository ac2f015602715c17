-- `expander::streams::extract` meets its contract: the loop keeps what is taken out and what is left. Assumes nothing.
use Rattle.rules.proofs.Base.{◌<◌, ◌∙◌, refl, arith, length-set, rules}
use Rattle.expander.proofs.Passes.{extract_in, extract_on, extract_end}
use Rattle.expander.proofs.streams.extract.Goals as goal
use Rattle.expander.proofs.streams.extract.Goals.{In-loop-n}

-- while dst is not full, a byte of the stream is still ahead
inside : (c : In-loop-n) → c.loop-n.k < c.args.used
inside c =
    let a = c.args in
    let l = c.loop-n in
    extract_in a.i a.used a.bytes.now a.owners.now l.dst l.n l.k l.invariant.3 (omega arith) (omega arith) (l.invariant.2 ∙ c.requires.dst_len) (omega arith)

pub loop-n-preserved : goal.loop-n-preserved
loop-n-preserved c =
    let a = c.args in
    let l = c.loop-n in
    let h : l.k < a.used = inside (goal.at.loop-n-preserved c).In-loop-n in (
      omega arith,
      omega arith,
      simp length-set l.invariant.2,
      extract_on a.i a.used a.bytes.now a.owners.now l.dst l.n l.k l.invariant.3 (omega arith) (omega arith) (omega arith) h c.of_stream-n.result c.of_stream-n.ensures.0,
    )

pub returns : goal.returns
returns c =
    let a = c.args in
    let l = c.loop-n in
    extract_end a.i a.used a.bytes.now a.owners.now l.dst l.n l.k l.invariant.3 (omega arith) (omega arith) (l.invariant.2 ∙ c.requires.dst_len) (omega arith)

pub loop-n-init : goal.loop-n-init
loop-n-init c = (search rules, search rules, refl, record { whole = refl })

pub bounds-bytes-k : goal.bounds-bytes-k
bounds-bytes-k c = omega (arith, inside (goal.at.bounds-bytes-k c).In-loop-n)

pub bounds-owners-k : goal.bounds-owners-k
bounds-owners-k c = omega (arith, inside (goal.at.bounds-owners-k c).In-loop-n)

pub overflow_add-n : goal.overflow_add-n
overflow_add-n c = omega arith

pub overflow_add-k : goal.overflow_add-k
overflow_add-k c = omega (arith, inside (goal.at.overflow_add-k c).In-loop-n)

pub loop-n-smaller : goal.loop-n-smaller
loop-n-smaller c = omega (arith, inside (goal.at.loop-n-smaller c).In-loop-n)

-- `ascii::same` meets its contract: the loop keeps that the rests are the same just where the wholes are. Assumes nothing.
use Rattle.rules.proofs.Base.{◌∙◌, sym, arith}
use Rattle.ascii.proofs.Laws.{same_lengths, same_not, same_on, same_end}
use Rattle.ascii.proofs.same.Goals as goal

pub returns-then-a-b : goal.returns-then-a-b
returns-then-a-b c = sym (same_lengths c.args.a.now c.args.b.now (λ e. omega arith))

pub returns-then-a-i : goal.returns-then-a-i
returns-then-a-i c =
    let a = c.args in
    let l = c.loop-i in
    sym (same_not a.a.now a.b.now l.i (omega arith) (omega arith) (λ e. omega arith)) ∙ l.invariant

pub loop-i-preserved : goal.loop-i-preserved
loop-i-preserved c =
    let a = c.args in
    let l = c.loop-i in
    sym (same_on a.a.now a.b.now l.i (omega arith) (omega arith) (omega arith)) ∙ l.invariant

pub returns : goal.returns
returns c =
    let a = c.args in
    let l = c.loop-i in
    sym (same_end a.a.now a.b.now l.i (omega arith) (omega arith)) ∙ l.invariant

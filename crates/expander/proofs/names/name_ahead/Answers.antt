-- `expander::names::name_ahead` meets its contract. Assumes nothing.
use Rattle.rules.proofs.Base.{arith, length-take-le}
use Rattle.expander.proofs.CallingLaws.{part_long, name_pending, name_input}
use Rattle.expander.proofs.names.name_ahead.Goals as goal

-- all bytes lie in one of the two
pub returns-then-have-eq0 : goal.returns-then-have-eq0
returns-then-have-eq0 c =
    let a = c.args in
    let h = c.if-have-eq0.true in record { is = λ l. name_input a.text.now a.pending.now a.p.taken a.p.from a.n h; fewer = λ l. absurd (omega (arith, l, h, c.requires.0, c.requires.1, c.requires.2, part_long a.text.now a.p.taken a.n (omega (arith, h, c.requires.0, c.requires.1, c.requires.2)))) }

pub returns-then-n-have : goal.returns-then-n-have
returns-then-n-have c =
    let a = c.args in
    let h = c.if-n-have.true in record { is = λ l. name_pending a.text.now a.pending.now a.p.taken a.p.from a.n h; fewer = λ l. absurd (omega (arith, l, h, c.requires.0, part_long a.pending.now a.p.from a.n (omega (arith, h, c.requires.0)))) }

-- no room
pub returns-then-scratch-n : goal.returns-then-scratch-n
returns-then-scratch-n c = record { is = λ l. absurd (omega (arith, l, c.if-n-have.false)); fewer = λ l. c.if-scratch-n.true }

pub returns : goal.returns
returns c = record { is = λ l. c.copy_name.ensures; fewer = λ l. absurd (omega (arith, l, length-take-le c.args.n c.copy_name.new.scratch (omega (arith, c.if-scratch-n.false, c.copy_name.auto)))) }

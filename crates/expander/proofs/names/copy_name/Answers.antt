-- `expander::names::copy_name` meets its contract. Assumes nothing.
use Rattle.rules.proofs.Base.{ap, arith, length, drop, length-append, length-drop, length-take-le}
use Rattle.expander.proofs.CallingLaws.{name_copied}
use Rattle.expander.proofs.names.copy_name.Goals as goal

pub copy_to-requires : goal.copy_to-requires
copy_to-requires c =
    let a = c.args in
    omega (arith, length-take-le a.n a.scratch.now (omega arith), ap length c.ahead.ensures, length-append (drop a.p.from a.pending.now) (drop a.p.taken a.text.now), length-drop a.p.from a.pending.now, length-drop a.p.taken a.text.now, c.requires)

pub returns : goal.returns
returns c =
    let a = c.args in
    name_copied a.text.now a.pending.now a.scratch.now a.p.taken a.p.from a.n c.requires.2 c.requires.3 c.ahead.ensures c.copy_to.ensures

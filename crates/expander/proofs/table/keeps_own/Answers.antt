-- `expander::table::keeps_own` meets its contract. Assumes nothing.
use Rattle.rules.proofs.Base.{sym}
use Rattle.expander.proofs.MaskLaws.{keeps_at}
use Rattle.expander.proofs.table.keeps_own.Goals as goal

pub returns : goal.returns
returns c = sym (keeps_at c.args.number c.args.own c.requires.0)

-- `expander::table::Definitions::undefine` meets its contract: the law `undefined_in`. Assumes nothing.
use Rattle.expander.proofs.Sifting.{undefined_in}
use Rattle.expander.proofs.table.Definitions.undefine.Goals as goal

pub returns : goal.returns
returns c =
    λ t h. undefined_in c.args.name.now h (c.drop_named-packed.ensures t.definitions h.holds) c.own_lost-own.ensures

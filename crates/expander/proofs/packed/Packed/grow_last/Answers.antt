-- `expander::packed::Packed::grow_last` meets its contract: the law `grown`. Assumes nothing.
use Rattle.rules.proofs.Base.{◌+◌, ◌-◌, refl, arith, drop-set-lt}
use Rattle.expander.proofs.Packing.{grown}
use Rattle.expander.proofs.packed.Packed.grow_last.Goals as goal

pub returns : goal.returns
returns c =
    let a = c.args in record { packs = λ before bytes ss s h es eb. grown h bytes s a.n (omega arith) es eb; count_value = (refl, refl, drop-set-lt a.self.count a.ends.now (a.self.count - 1) (a.self.used + a.n) (omega arith)) }

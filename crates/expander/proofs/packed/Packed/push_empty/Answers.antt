-- `expander::packed::Packed::push_empty` meets its contract: the law `pushed_empty`. Assumes nothing.
use Rattle.rules.proofs.Base.{◌+◌, refl, arith, drop-set-lt}
use Rattle.expander.proofs.Packing.{pushed_empty}
use Rattle.expander.proofs.packed.Packed.push_empty.Goals as goal

pub returns : goal.returns
returns c =
    let a = c.args in record { packs = λ bytes ss h. pushed_empty h (omega arith); count_value = (refl, refl, drop-set-lt (a.self.count + 1) a.ends.now a.self.count a.self.used (omega arith)) }

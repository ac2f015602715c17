-- `expander::packed::Packed::drop_named` meets its contract: the loop keeps where the pass is, for all definitions that the buffer may hold. Assumes nothing.
use Rattle.rules.proofs.Base.{◌≡◌, List, drop}
use Rattle.rules.specs.Table.{Definition}
use Rattle.expander.specs.Limits.{links_start}
use Rattle.expander.specs.Table.{DefinitionsIn}
use Rattle.expander.specs.declared.packed.Packed.{Packed}
use Rattle.expander.proofs.Sifting.{Sifting}
use Rattle.expander.proofs.packed.Packed.drop_named.Given as goal

abbrev pub invariant-loop-i : goal.invariant-loop-i
invariant-loop-i l = (drop links_start l.ends ≡ drop links_start l.initial.ends)
    × ((p : Packed) (ds : List Definition) → p.count ≡ l.count → DefinitionsIn l.initial.bytes l.initial.ends p ds → Sifting l.name ds l.count l.bytes l.ends l.kept l.i l.from)

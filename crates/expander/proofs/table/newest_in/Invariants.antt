-- `expander::table::newest_in` meets its contract: the loop keeps that the newest definition is among those of the bucket that are left. Assumes nothing.
use Rattle.rules.proofs.Base.{List}
use Rattle.rules.specs.Table.{Definition}
use Rattle.expander.specs.Table.{DefinitionsIn}
use Rattle.expander.specs.declared.packed.Packed.{Packed}
use Rattle.expander.proofs.BucketSearch.{SearchAt}
use Rattle.expander.proofs.table.newest_in.Given as goal

abbrev pub invariant-loop-left : goal.invariant-loop-left
invariant-loop-left l = (p : Packed) (ds : List Definition) → DefinitionsIn l.bytes l.ends p ds → SearchAt l.name ds l.left

abbrev pub decreases-loop-left : goal.decreases-loop-left
decreases-loop-left l = l.left

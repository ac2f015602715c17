-- `expander::table::newest_plain` meets its contract: the loop keeps that the newest definition is among those left to look at. Assumes nothing.
use Rattle.rules.proofs.Base.{◌≡◌, List, take}
use Rattle.rules.specs.Table.{Definition, newest_place}
use Rattle.expander.specs.Table.{DefinitionsIn}
use Rattle.expander.proofs.table.newest_plain.Given as goal

abbrev pub invariant-loop-at : goal.invariant-loop-at
invariant-loop-at l = (ds : List Definition) → DefinitionsIn l.bytes l.ends l.fn.packed ds → newest_place l.name ds ≡ newest_place l.name (take l.at ds)

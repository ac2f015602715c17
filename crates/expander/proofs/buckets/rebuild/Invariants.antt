-- `expander::buckets::rebuild` meets its contract: the loop keeps that the definitions so far are chained. Assumes nothing.
use Rattle.rules.proofs.Base.{◌≡◌, List, take}
use Rattle.rules.specs.Table.{Definition}
use Rattle.expander.specs.Limits.{links_start}
use Rattle.expander.specs.Buckets.{Chained}
use Rattle.expander.specs.Packed.{Packs}
use Rattle.expander.specs.Table.{rows}
use Rattle.expander.proofs.buckets.rebuild.Given as goal

abbrev pub invariant-loop-i : goal.invariant-loop-i
invariant-loop-i l = (take links_start l.ends ≡ take links_start l.initial.ends)
    × ((ds : List Definition) → Packs l.initial.ends l.packed.count l.bytes l.packed.used (rows ds) → Chained l.ends (take l.i ds))

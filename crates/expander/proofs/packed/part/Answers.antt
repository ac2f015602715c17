-- `expander::packed::part` meets its contract: the law `lies`, at what `start` returned. Assumes nothing.
use Rattle.rules.proofs.Base.{ℕ, ◌<◌, List, [], arith, get_or}
use Rattle.rules.specs.Bytes.{Bytes}
use Rattle.expander.specs.Packed.{Packs}
use Rattle.expander.proofs.Packing.{Lies, lies}
use Rattle.expander.proofs.packed.part.Goals as goal
use Rattle.expander.proofs.packed.part.Goals.{After-start-e}

-- after both calls of `start`: where string k lies
lies_for : (c : After-start-e) {count used : ℕ} (ss : List Bytes) → Packs c.args.ends.now count c.args.bytes.now used ss → c.args.k < count
    → Lies c.args.bytes.now used c.start-a.result c.start-e.result (get_or ss c.args.k [])
lies_for c ss h l = lies h c.args.k c.start-a.result c.start-e.result l c.start-a.ensures c.start-e.ensures

at : (c : After-start-e)
    → Lies c.args.bytes.now c.requires.used c.start-a.result c.start-e.result (get_or c.requires.formed.strings c.args.k [])
at c = lies_for c c.requires.formed.strings c.requires.formed.packs c.requires.within

pub returns : goal.returns
returns c = λ count used ss h l. (lies_for (goal.at.returns c).After-start-e ss h l).is

pub start-a-requires : goal.start-a-requires
start-a-requires c = omega (arith, c.requires.within, c.requires.formed.packs.count_in)

pub start-e-requires : goal.start-e-requires
start-e-requires c = omega (arith, c.requires.within, c.requires.formed.packs.count_in)

pub slice_bounds-result-count : goal.slice_bounds-result-count
slice_bounds-result-count c = (at (goal.at.slice_bounds-result-count c).After-start-e).ordered

pub slice_bounds-result-start : goal.slice_bounds-result-start
slice_bounds-result-start c = (at (goal.at.slice_bounds-result-start c).After-start-e).ordered

pub slice_bounds-result-end : goal.slice_bounds-result-end
slice_bounds-result-end c = (at (goal.at.slice_bounds-result-end c).After-start-e).within

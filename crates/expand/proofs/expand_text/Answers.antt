use Rattle.expand.proofs.Reading.{part_long}
use Rattle.expand.proofs.expand_text.Goals as goal

pub slice_bounds-write_all-end : goal.slice_bounds-write_all-end
slice_bounds-write_all-end g c = part_long _ _ c.expanded-r.ensures.output

pub slice_bounds-write_all-end-2 : goal.slice_bounds-write_all-end-2
slice_bounds-write_all-end-2 g c = part_long _ _ c.expanded-r.ensures.errors

use Rattle.expander.proofs.ExpandLaws.{output_inside, errors_inside}
use Rattle.worked_texts.proofs.Written.{part_long}
use Rattle.worked_texts.proofs.run.Goals as goal

pub slice_bounds-write_all-end-2 : goal.slice_bounds-write_all-end-2
slice_bounds-write_all-end-2 g c = output_inside c.expand-r.ensures c.expand-r.auto.output

pub slice_bounds-write_all-end-3 : goal.slice_bounds-write_all-end-3
slice_bounds-write_all-end-3 g c = part_long _ _ (output_inside c.expand-r.ensures c.expand-r.auto.output)

pub slice_bounds-write_all-end-then-k-gt0-2 : goal.slice_bounds-write_all-end-then-k-gt0-2
slice_bounds-write_all-end-then-k-gt0-2 g c = errors_inside c.expand-r.ensures c.expand-r.auto.errors

pub slice_bounds-write_all-end-then-k-gt0-3 : goal.slice_bounds-write_all-end-then-k-gt0-3
slice_bounds-write_all-end-then-k-gt0-3 g c = part_long _ _ (errors_inside c.expand-r.ensures c.expand-r.auto.errors)

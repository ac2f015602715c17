use Rattle.rules.proofs.Base.{arith}
use Rattle.worked_texts.proofs.Written.{part_long}
use Rattle.worked_texts.proofs.lent.Goals as goal

pub slice_bounds-run-end : goal.slice_bounds-run-end
slice_bounds-run-end g c = part_long c.args.one c.large_buffer-pending.result (omega (arith, c.requires, c.large_buffer-pending.ensures))

pub slice_bounds-run-end-2 : goal.slice_bounds-run-end-2
slice_bounds-run-end-2 g c = part_long c.args.two c.large_buffer-calls.result (omega (arith, c.requires, c.large_buffer-calls.ensures))

pub slice_bounds-run-end-3 : goal.slice_bounds-run-end-3
slice_bounds-run-end-3 g c = part_long c.args.three c.large_buffer-definitions.result (omega (arith, c.requires, c.large_buffer-definitions.ensures))

pub slice_bounds-run-end-7 : goal.slice_bounds-run-end-7
slice_bounds-run-end-7 g c = part_long c.args.seven c.large_buffer-output.result (omega (arith, c.requires, c.large_buffer-output.ensures))

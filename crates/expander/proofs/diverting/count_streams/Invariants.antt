-- `expander::diverting::count_streams` meets its contract: the loop keeps what the turns before add, for all streams and arguments that the buffers may hold. Assumes nothing.
use Rattle.expander.specs.Limits.{most_lent}
use Rattle.rules.proofs.Base.{◌≤◌, ℕ, ◌<◌, ◌*◌, get_or}
use Rattle.rules.specs.Streams.{Streams}
use Rattle.expander.specs.Arguments.{args_of}
use Rattle.expander.specs.Diverting.{turns, Leaving}
use Rattle.expander.proofs.Fitting.{Counting}
use Rattle.expander.proofs.diverting.count_streams.Given as goal

abbrev pub invariant-loop-j : goal.invariant-loop-j
invariant-loop-j l = (l.sum ≤ l.j * most_lent) × ((i : ℕ) → i < 10 → get_or l.counts i 0 ≤ most_lent)
    × ((u : Streams) → Leaving l.initial.counts u → Counting l.counts (turns (args_of l.x)) l.j l.sum u)

-- `expander::sinks::Sinks::move_streams` meets its contract: the loop keeps what the turns before made, for all streams and arguments that the buffers may hold. Assumes nothing.
use Rattle.rules.proofs.Base.{◌≡◌, length}
use Rattle.rules.specs.Streams.{Streams}
use Rattle.expander.specs.Arguments.{args_of}
use Rattle.expander.specs.Sinks.{SinksIn}
use Rattle.expander.specs.Diverting.{turns}
use Rattle.expander.proofs.DivertingLaws.{Turning}
use Rattle.expander.proofs.sinks.Sinks.move_streams.Given as goal

abbrev pub invariant-loop-j : goal.invariant-loop-j
invariant-loop-j l = (length l.streams ≡ length l.initial.streams) × (length l.owners ≡ length l.initial.owners) × (length l.output ≡ length l.initial.output) × (length l.scratch ≡ length l.initial.scratch)
    × ((u : Streams) → SinksIn l.initial.streams l.initial.owners l.initial.output l.initial.k u → Turning l.streams l.owners l.output l.k l.seen (turns (args_of l.x)) l.j u)

-- `expander::run::run` meets its contract. Assumes nothing.
use Rattle.rules.proofs.Base.{◌≤◌, ℕ, ◌-◌, ◌≡◌, Some, List, length}
use Rattle.rules.specs.Sets.{Item, set_items}
use Rattle.rules.specs.State.{fresh_start, start_state}
use Rattle.rules.specs.Run.{Setting, lengths, run_from}
use Rattle.expander.specs.Machine.{Memory, memory, Limits}
use Rattle.expander.specs.Run.{Running}
use Rattle.expander.proofs.run.run.Given as goal

-- two memories, each with its scratch buffer, of the same lengths
abbrev pub SameLengths : Memory → List ℕ → Memory → List ℕ → Type 0
SameLengths b s b₀ s₀ =
    (length b.pending ≡ length b₀.pending)
    × (length b.calls ≡ length b₀.calls)
    × (length b.call_ends ≡ length b₀.call_ends)
    × (length b.stack ≡ length b₀.stack)
    × (length b.definitions ≡ length b₀.definitions)
    × (length b.table_ends ≡ length b₀.table_ends)
    × (length b.streams ≡ length b₀.streams)
    × (length b.owners ≡ length b₀.owners)
    × (length b.wrap ≡ length b₀.wrap)
    × (length b.errors ≡ length b₀.errors)
    × (length b.output ≡ length b₀.output)
    × (length s ≡ length s₀)

abbrev pub invariant-loop-left : goal.invariant-loop-left
invariant-loop-left l = ((a : Setting) (is : List Item) → set_items l.set ≡ Some is → Limits a (memory l.text l.set l.initial.pending l.initial.calls l.initial.ends l.initial.stack l.initial.definitions l.initial.table_ends l.initial.streams l.initial.owners l.initial.wrap l.initial.errors l.initial.output) → Running a (memory l.text l.set l.pending l.calls l.ends l.stack l.definitions l.table_ends l.streams l.owners l.wrap l.errors l.output) l.m l.left (l.budget - l.left) (run_from (lengths a) l.budget 0 (start_state is (fresh_start l.text l.set))))
    × SameLengths (memory l.text l.set l.pending l.calls l.ends l.stack l.definitions l.table_ends l.streams l.owners l.wrap l.errors l.output) l.scratch (memory l.text l.set l.initial.pending l.initial.calls l.initial.ends l.initial.stack l.initial.definitions l.initial.table_ends l.initial.streams l.initial.owners l.initial.wrap l.initial.errors l.initial.output) l.initial.scratch
    × (l.left ≤ l.budget)

abbrev pub decreases-loop-left : goal.decreases-loop-left
decreases-loop-left l = l.left

-- `expander::plain_steps::run_plain` meets its contract. Assumes nothing.
use Rattle.rules.proofs.Base.{◌≤◌, ◌+◌, ℕ, ◌-◌, ◌≡◌, List, length}
use Rattle.rules.specs.Run.{Setting, Ended}
use Rattle.expander.specs.Machine.{Memory, text_at, pending_at, calls_at, definitions_at, sinks_at}
use Rattle.expander.specs.Run.{Running}
use Rattle.expander.proofs.plain_steps.run_plain.Given as goal

-- the lists that the loop changes have their first lengths
abbrev pub SameLengths : (calls ends stack streams owners output scratch calls₀ ends₀ stack₀ streams₀ owners₀ output₀ scratch₀ : List ℕ) → Type 0
SameLengths calls ends stack streams owners output scratch calls₀ ends₀ stack₀ streams₀ owners₀ output₀ scratch₀ =
    (length calls ≡ length calls₀)
    × (length ends ≡ length ends₀)
    × (length stack ≡ length stack₀)
    × (length streams ≡ length streams₀)
    × (length owners ≡ length owners₀)
    × (length output ≡ length output₀)
    × (length scratch ≡ length scratch₀)

abbrev pub invariant-loop-left : goal.invariant-loop-left
invariant-loop-left l = ((a : Setting) (b : Memory) (w : Ended) (count : ℕ)
    → Running a (text_at l.text (pending_at l.pending (calls_at l.initial.calls l.initial.ends l.initial.stack (definitions_at l.definitions l.table_ends (sinks_at l.initial.streams l.initial.owners l.initial.output b))))) l.initial.m l.budget count w
    → Running a (text_at l.text (pending_at l.pending (calls_at l.calls l.ends l.stack (definitions_at l.definitions l.table_ends (sinks_at l.streams l.owners l.output b))))) l.m l.left (count + (l.budget - l.left)) w)
    × (l.left ≤ l.budget)
    × SameLengths l.calls l.ends l.stack l.streams l.owners l.output l.scratch l.initial.calls l.initial.ends l.initial.stack l.initial.streams l.initial.owners l.initial.output l.initial.scratch

abbrev pub decreases-loop-left : goal.decreases-loop-left
decreases-loop-left l = l.left

-- A run: steps under a setting, room judged on the state after each, and how it ends.
use Rattle.std.specs.Prelude.{ℕ, zero, suc, ◌+◌, Bool, true, false, List, [], ◌∷◌, leb, length, Option, None, Some}
use Rattle.rules.specs.declared.Answer.{Answer}
use Rattle.rules.specs.declared.Answer.TheVariants as answer
use Rattle.rules.specs.Answers.{ending_answer, fault_answer}
use Rattle.rules.specs.Places.{plus_one}
use Rattle.rules.specs.Sets.{Item, set_items}
use Rattle.rules.specs.Table.{table_cost}
use Rattle.rules.specs.Streams.{total_length}
use Rattle.rules.specs.State.{Call, State, Outcome, next, stop, refused, Start, start_state}
use Rattle.rules.specs.Step.{step}

-- 01 "Its setting is the seven lent lengths and the budget"
pub record Setting : Type 0 where
  pub pending : ℕ
  pub calls : ℕ
  pub definitions : ℕ
  pub streams : ℕ
  pub wrap : ℕ
  pub errors : ℕ
  pub output : ℕ
  pub budget : ℕ

-- the lengths of the buffers 1 to 7
unfoldable pub lengths : Setting → List ℕ
lengths a = a.pending ∷ a.calls ∷ a.definitions ∷ a.streams ∷ a.wrap ∷ a.errors ∷ a.output ∷ []

-- "the names and arguments collected of all open calls"
unfoldable pub calls_cost : List Call → ℕ
calls_cost [] = 0
calls_cost (c ∷ cs) = length c.name + (total_length c.finished + (length c.current + calls_cost cs))

-- 01 "What each holds after a step": buffers 1 to 7
unfoldable pub held : State → List ℕ
held s =
    length s.source.pending
    ∷ calls_cost s.calls
    ∷ table_cost s.table.definitions
    ∷ total_length s.streams.waiting
    ∷ length s.wrap
    ∷ length s.errors
    ∷ length s.streams.output
    ∷ []

-- the place, from 0, of the first buffer that would hold more than its length: 01 "of several full buffers the lowest number is named"
unfoldable pub overfull : List ℕ → List ℕ → Option ℕ
overfull [] ls = None
overfull (h ∷ hs) [] = None
overfull (h ∷ hs) (l ∷ ls) = elim (leb h l) [ true ↦ plus_one (overfull hs ls) | false ↦ Some 0 ]

-- how a run ended: the answer, the completed steps and the standing state, which on a refusal is that before the refused step
pub record Ended : Type 0 where
  pub answer : Answer
  pub steps : ℕ
  pub state : State

unfoldable pub ended_with : Answer → ℕ → State → Ended
ended_with a steps s = record { answer = a; steps = steps; state = s }

-- room is judged on the state t that a step from s, after `count` completed ones, led to, by the first buffer that t overfills. `go` says how the run
-- goes on from a state: where nothing is overfull that is asked of t; else the step is refused, and the run ends in s with the steps before it
unfoldable pub judged : (State → Ended) → ℕ → State → State → Option ℕ → Ended
judged go count s t None = go t
judged go count s t (Some b) = ended_with (answer.Room (suc b)) count s

-- what follows from the outcome of a step from s, to which `count` completed steps led. Here `go` is the rest of the run, from the state after the
-- step; a step that ends the run has no rest, and its `go` is that end itself. 01 "a refused step is not counted, the one that
-- ends in 0 or 1 is", "within a step 5 to 13 come before 4"; 02 "15 unknown include, within its step before 4"; request 7 "both before 4"
unfoldable pub continued : List ℕ → (State → Ended) → ℕ → State → Outcome → Ended
continued ls go count s (refused f) = ended_with (fault_answer f) count s
continued ls go count s (stop e t) = judged (ended_with (ending_answer e) (suc count)) count s t (overfull (held t) ls)
continued ls go count s (next t) = judged go count s t (overfull (held t) ls)

-- at most `left` further steps from s: 01 "before each step 3"
unfoldable pub run_from : List ℕ → ℕ → ℕ → State → Ended
run_from ls zero count s = ended_with answer.Spent count s
run_from ls (suc left) count s = continued ls (λ t. run_from ls left (suc count) t) count s (step s)

-- 01 "at most 65,536 bytes", of the text and of each buffer
abbrev pub most_lent : ℕ
most_lent = 65536

-- no length is above it
unfoldable pub all_lendable : List ℕ → Bool
all_lendable [] = true
all_lendable (l ∷ ls) = elim (leb l most_lent) [ true ↦ all_lendable ls | false ↦ false ]

-- 02, request 1 "is judged whole before the first step"; "14 bad or overlong set, right after 2"
unfoldable pub started : Option (List Item) → Start → Setting → Ended
started None b a = ended_with answer.BadSet 0 (start_state [] b)
started (Some is) b a = run_from (lengths a) a.budget 0 (start_state is b)

unfoldable pub admitted : Bool → Start → Setting → Ended
admitted false b a = ended_with answer.Lend 0 (start_state [] b)
admitted true b a = started (set_items b.set) b a

-- 01 "Order: 2 first": the text or a buffer exceeds 65,536 bytes
unfoldable pub run : Start → Setting → Ended
run b a = admitted (all_lendable (length b.text ∷ lengths a)) b a

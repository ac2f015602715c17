-- Every byte once (02, request 8): the history of a run, the numbers that bytes get along it, and what holds of the numbers in the output.
use Rattle.std.specs.Prelude.{ℕ, zero, suc, ◌+◌, ◌≤◌, ◌<◌, ◌≡◌, Bool, true, false, ◌&&◌, not, cond, List, [], ◌∷◌, ◌++◌, map, eqb, leb, ltb, ℤ, pos, negsuc, length, get_or, Option, None, Some}
use Rattle.rules.specs.Bytes.{Bytes}
use Rattle.rules.specs.Sets.{Item, set_items}
use Rattle.rules.specs.Streams.{empty_streams, discards, is_current, Change, places, moves, finishes, drops, diverts, changed_in_turn}
use Rattle.rules.specs.State.{State, Outcome, next, stop, refused, Start, start_state}
use Rattle.rules.specs.Step.{step}
use Rattle.rules.specs.Changes.{changes_of}
use Rattle.rules.specs.Run.{Setting, run}

-- ---- the history of a run

-- what a step led to: `go` says which states follow from the next one
unfoldable pub following : (State → List State) → Outcome → List State
following go (next t) = go t
following go (stop x t) = []
following go (refused f) = []

-- the states from which the first n steps are made, in turn, where the first is made from s
unfoldable pub states_from : ℕ → State → List State
states_from zero s = []
states_from (suc n) s = s ∷ following (λ t. states_from n t) (step s)

-- a bad set has no items; no step is made with it
unfoldable pub items_or : Option (List Item) → List Item
items_or None = []
items_or (Some is) = is

-- the states from which the completed steps of a run are made
unfoldable pub states_of : Start → Setting → List State
states_of b a = states_from (run b a).steps (start_state (items_or (set_items b.set)) b)

-- what the steps from these states change of the streams
unfoldable pub changes_along : List State → List Change
changes_along [] = []
changes_along (s ∷ ss) = changes_of s ++ changes_along ss

-- 02 "the history of steps": what the completed steps of a run change of the streams, in turn. Each change is read off the state before its step
unfoldable pub history_of : Start → Setting → List Change
history_of b a = changes_along (states_of b a)

-- ---- numbers

-- the bytes that a change places first, while c is the current stream: 02 "when it is first placed in a stream 0 to 9"
unfoldable pub first_placed : Change → ℤ → Bytes
first_placed (places w) c = cond (discards c) [] w
first_placed (moves n) c = []
first_placed finishes c = []
first_placed drops c = []
first_placed (diverts n) c = []

unfoldable pub current_after : Change → ℤ → ℤ
current_after (places w) c = c
current_after (moves n) c = c
current_after finishes c = c
current_after drops c = c
current_after (diverts n) c = n

-- how far a history has come: how many numbers are given, and the current stream
pub record Tally : Type 0 where
  pub given : ℕ
  pub current : ℤ

unfoldable pub tallied : Change → Tally → Tally
tallied x t = record { given = t.given + length (first_placed x t.current); current = current_after x t.current }

-- before the first step no number is given, and stream 0 is the current one
unfoldable pub first_tally : Tally
first_tally = record { given = 0; current = pos 0 }

-- n numbers, from k on
unfoldable pub counting_from : ℕ → ℕ → List ℕ
counting_from k zero = []
counting_from k (suc n) = k ∷ counting_from (suc k) n

-- 02 "Number each byte when it is first placed": the change with the next numbers in the place of its bytes; bytes that are discarded get none
unfoldable pub numbered_change : Change → Tally → Change
numbered_change (places w) t = places (counting_from t.given (length (first_placed (places w) t.current)))
numbered_change (moves n) t = moves n
numbered_change finishes t = finishes
numbered_change drops t = drops
numbered_change (diverts n) t = diverts n

unfoldable pub numbered_from : Tally → List Change → List Change
numbered_from t [] = []
numbered_from t (x ∷ xs) = numbered_change x t ∷ numbered_from (tallied x t) xs

-- the numbers that the output holds in the end: the same streams, changed by the same changes, with numbers in the place of bytes
unfoldable pub output_numbers : List Change → List ℕ
output_numbers h = (changed_in_turn (numbered_from first_tally h) empty_streams).output

unfoldable pub values_from : ℤ → List Change → Bytes
values_from c [] = []
values_from c (x ∷ xs) = first_placed x c ++ values_from (current_after x c) xs

-- the bytes that got a number, in the order of their numbers
unfoldable pub values_of : List Change → Bytes
values_of h = values_from (pos 0) h

unfoldable pub value_in : List Change → ℕ → ℕ
value_in h k = get_or (values_of h) k 0

-- how many numbers were given: those below it
unfoldable pub given_in : List Change → ℕ
given_in h = length (values_of h)

-- ---- the route of a number

-- streams 1 to 9
unfoldable pub is_waiting : ℤ → Bool
is_waiting (pos n) = leb 1 n && leb n 9
is_waiting (negsuc n) = false

-- whether a change moves what stands in stream p, while c is the current one: an undivert of p where p is not the current stream; the end, for
-- streams 1 to 9
unfoldable pub takes : Change → ℤ → ℤ → Bool
takes (places w) c p = false
takes (moves n) c p = is_waiting p && (is_current n p && not (is_current n c))
takes finishes c p = is_waiting p
takes drops c p = false
takes (diverts n) c p = false

-- the stream to which a move takes it: the current one, which may discard; at the end the output
unfoldable pub target : Change → ℤ → ℤ
target (places w) c = c
target (moves n) c = c
target finishes c = pos 0
target drops c = c
target (diverts n) c = c

-- whether a change gives the number k
unfoldable pub gives : ℕ → Change → Tally → Bool
gives k x t = leb t.given k && ltb k (tallied x t).given

-- the streams in which the number k has stood, the last one first; none before it is given
unfoldable pub route_after : ℕ → Change → Tally → List ℤ → List ℤ
route_after k x t [] = cond (gives k x t) (t.current ∷ []) []
route_after k x t (p ∷ ps) = cond (takes x t.current p) (target x t.current ∷ p ∷ ps) (p ∷ ps)

unfoldable pub route_from : ℕ → Tally → List ℤ → List Change → List ℤ
route_from k t r [] = r
route_from k t r (x ∷ xs) = route_from k (tallied x t) (route_after k x t r) xs

unfoldable pub route_of : ℕ → List Change → List ℤ
route_of k h = route_from k first_tally [] h

-- the stream in which it was first placed
unfoldable pub first_stream : List ℤ → Option ℤ
first_stream [] = None
first_stream (p ∷ []) = Some p
first_stream (p ∷ q ∷ ps) = first_stream (q ∷ ps)

-- 02 "the numbers that an undivert moved while a discarding stream was current": such a one stands in no stream 0 to 9
unfoldable pub is_lost : List ℤ → Bool
is_lost [] = false
is_lost (p ∷ ps) = discards p

unfoldable pub stands_in : ℕ → List ℤ → Bool
stands_in n [] = false
stands_in n (p ∷ ps) = is_current n p

-- whether a change moves what has this route
unfoldable pub is_taken : Change → Tally → List ℤ → Bool
is_taken x t [] = false
is_taken x t (p ∷ ps) = takes x t.current p

unfoldable pub moves_from : ℕ → Tally → List ℤ → List Change → List Bool
moves_from k t r [] = []
moves_from k t r (x ∷ xs) = is_taken x t r ∷ moves_from k (tallied x t) (route_after k x t r) xs

-- for each change of a history, whether it moves the number k
unfoldable pub moves_of : ℕ → List Change → List Bool
moves_of k h = moves_from k first_tally [] h

-- 02 "Bytes placed in one stream that make every move together": each move takes both or neither
pub record Together (h : List Change) (j k : ℕ) : Type 0 where
  pub placed : first_stream (route_of j h) ≡ first_stream (route_of k h)
  pub moved : moves_of j h ≡ moves_of k h

-- ---- every byte once

-- how often a number occurs
unfoldable pub occurrences : ℕ → List ℕ → ℕ
occurrences k [] = 0
occurrences k (n ∷ ns) = cond (eqb k n) 1 0 + occurrences k ns

-- of any two numbers in the list that have the relation, the smaller stands first
abbrev pub InOrder : (ℕ → ℕ → Type 0) → List ℕ → Type 0
InOrder r ns = (i j : ℕ) → i < j → j < length ns → r (get_or ns i 0) (get_or ns j 0) → get_or ns i 0 < get_or ns j 0

-- request 8, of a run with the history h that ended in the answer `number` and wrote this output. Of a refused run, which has no output, it says nothing
pub record EveryByteOnce (h : List Change) (number : ℕ) (output : Bytes) : Type 0 where
  -- "it keeps number and value"; "the output holds no byte without a number"
  pub numbered : number ≤ 1 → map (value_in h) (output_numbers h) ≡ output
  -- .. and none that was not given
  pub given : number ≤ 1 → (k : ℕ) → given_in h ≤ k → occurrences k (output_numbers h) ≡ 0
  -- "In a done run .. each number exactly once, except the numbers that an undivert moved while a discarding stream was current"
  pub once : number ≡ 0 → (k : ℕ) → k < given_in h → is_lost (route_of k h) ≡ false → occurrences k (output_numbers h) ≡ 1
  -- "those it holds not at all"
  pub lost : number ≡ 0 → (k : ℕ) → is_lost (route_of k h) ≡ true → occurrences k (output_numbers h) ≡ 0
  -- "After m4exit the output holds exactly the numbers standing in stream 0, each once"
  pub exited : number ≡ 1 → (k : ℕ) → occurrences k (output_numbers h) ≡ cond (stands_in 0 (route_of k h)) 1 0
  -- "Bytes placed in one stream that make every move together keep their order"
  pub ordered : number ≤ 1 → InOrder (Together h) (output_numbers h)
  -- .. and so do bytes that take the same route, each in moves of its own: none overtakes another
  pub passed : number ≤ 1 → InOrder (λ j k. route_of j h ≡ route_of k h) (output_numbers h)

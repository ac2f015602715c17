-- The streams: 0 is the output, 1 to 9 wait for the end, any other discards. `Change` has the ways in which they change.
use Rattle.std.specs.Prelude.{ℕ, zero, suc, ◌+◌, Bool, true, false, List, [], ◌∷◌, ◌++◌, eqb, leb, ltb, ℤ, pos, negsuc, length, get_or, set}
use Rattle.rules.specs.Bytes.{Bytes}

-- the output, streams 1 to 9, and the number of the current stream
pub record Streams : Type 0 where
  pub output : Bytes
  pub waiting : List Bytes
  pub current : ℤ

abbrev pub nine_empty : List Bytes
nine_empty = [] ∷ [] ∷ [] ∷ [] ∷ [] ∷ [] ∷ [] ∷ [] ∷ [] ∷ []

unfoldable pub empty_streams : Streams
empty_streams = record { output = []; waiting = nine_empty; current = pos 0 }

-- the bytes of one of the streams 1 to 9
unfoldable pub waiting_in : ℕ → Streams → Bytes
waiting_in zero s = []
waiting_in (suc i) s = get_or s.waiting i []

-- 01 "divert outside 0 to 9 discards"
unfoldable pub discards : ℤ → Bool
discards (pos n) = ltb 9 n
discards (negsuc n) = true

-- bytes behind those of a stream; one that discards takes none
unfoldable pub placed : ℤ → Bytes → Streams → Streams
placed (negsuc n) w s = s
placed (pos zero) w s = record { output = s.output ++ w; waiting = s.waiting; current = s.current }
placed (pos (suc i)) w s =
    elim (leb (suc i) 9) [
      | true ↦ record { output = s.output; waiting = set s.waiting i (get_or s.waiting i [] ++ w); current = s.current }
      | false ↦ s
    ]

unfoldable pub is_current : ℕ → ℤ → Bool
is_current n (pos k) = eqb n k
is_current n (negsuc k) = false

unfoldable pub emptied : ℕ → Streams → Streams
emptied zero s = s
emptied (suc i) s = record { output = s.output; waiting = set s.waiting i []; current = s.current }

-- 01 "undivert moves text unscanned and skips the current stream; into a discarding stream it is lost"
unfoldable pub moved : ℕ → Streams → Streams
moved n s = elim (is_current n s.current) [ true ↦ s | false ↦ placed s.current (waiting_in n s) (emptied n s) ]

-- several in turn, which is what their `moves` come to
unfoldable pub moved_in_turn : List ℕ → Streams → Streams
moved_in_turn [] s = s
moved_in_turn (n ∷ ns) s = moved_in_turn ns (moved n s)

unfoldable pub joined : List Bytes → Bytes
joined [] = []
joined (w ∷ ws) = w ++ joined ws

-- 01 "streams 1 to 9 are appended to the output in order"
unfoldable pub finished_streams : Streams → Streams
finished_streams s = record { output = s.output ++ joined s.waiting; waiting = nine_empty; current = s.current }

-- 01, of m4exit: "streams 1 to 9 .. are dropped"
unfoldable pub dropped_streams : Streams → Streams
dropped_streams s = record { output = s.output; waiting = nine_empty; current = s.current }

unfoldable pub diverted : ℤ → Streams → Streams
diverted n s = record { output = s.output; waiting = s.waiting; current = n }

-- a change: bytes go behind those of the current stream; one of the streams 1 to 9 moves to the current one; these nine are appended
-- to the output, or dropped; another stream becomes the current one
pub data Change : Type 0 where
  places : Bytes → Change
  moves : ℕ → Change
  finishes : Change
  drops : Change
  diverts : ℤ → Change

unfoldable pub changed : Change → Streams → Streams
changed (places w) s = placed s.current w s
changed (moves n) s = moved n s
changed finishes s = finished_streams s
changed drops s = dropped_streams s
changed (diverts n) s = diverted n s

unfoldable pub changed_in_turn : List Change → Streams → Streams
changed_in_turn [] s = s
changed_in_turn (c ∷ cs) s = changed_in_turn cs (changed c s)

-- how many bytes texts have in all
unfoldable pub total_length : List Bytes → ℕ
total_length [] = 0
total_length (w ∷ ws) = length w + total_length ws

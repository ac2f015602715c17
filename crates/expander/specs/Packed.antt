-- Packed byte strings: one after the other from the front of a buffer, their ends in a slice of numbers beside it.
use Rattle.std.specs.Prelude.{◌≡◌, ℕ, ◌+◌, ◌-◌, ◌<◌, ◌≤◌, List, [], ◌∷◌, ◌++◌, length, take, drop, slice_index}
use Rattle.rules.specs.Bytes.{Bytes}
use Rattle.rules.specs.Streams.{joined}

-- where each string ends, the first starting at a place
unfoldable pub ends_from : ℕ → List Bytes → List ℕ
ends_from from [] = []
ends_from from (s ∷ ss) = (from + length s) ∷ ends_from (from + length s) ss

-- the first `count` ends and the first `used` bytes are those of the strings; what stands behind them is free
pub record Packs (ends : List ℕ) (count : ℕ) (bytes : Bytes) (used : ℕ) (strings : List Bytes) : Type 0 where
  pub ends_are : take count ends ≡ ends_from 0 strings
  pub bytes_are : take used bytes ≡ joined strings
  pub count_in : count ≤ length ends
  pub used_in : used ≤ length bytes

-- a list of bytes cut at ends, the first string starting at a place
unfoldable pub cut : ℕ → List ℕ → Bytes → List Bytes
cut from [] bytes = []
cut from (e ∷ es) bytes = take (e - from) bytes ∷ cut e es (drop (e - from) bytes)

-- the first `count` strings of a buffer, by their ends
unfoldable pub strings_in : List ℕ → ℕ → Bytes → List Bytes
strings_in ends count bytes = cut 0 (take count ends) bytes

-- some strings are packed: what functions ask
pub record Formed (ends : List ℕ) (count : ℕ) (bytes : Bytes) (used : ℕ) : Type 0 where
  pub strings : List Bytes
  pub packs : Packs ends count bytes used strings

-- and string k is one of them
pub record HasString (ends : List ℕ) (bytes : Bytes) (k : ℕ) : Type 0 where
  pub count : ℕ
  pub used : ℕ
  pub formed : Formed ends count bytes used
  pub within : k < count

-- where string k starts: where the one before it ends
unfoldable pub start_of : List ℕ → ℕ → ℕ
start_of ends k = slice_index (0 ∷ ends) k

-- the last string is longer by a text
unfoldable pub last_more : List Bytes → Bytes → List Bytes
last_more [] x = []
last_more (s ∷ []) x = (s ++ x) ∷ []
last_more (s ∷ t ∷ ss) x = s ∷ last_more (t ∷ ss) x

-- a list with another written over it from a place on
unfoldable pub overlaid : ℕ → List ℕ → List ℕ → List ℕ
overlaid at x l = take at l ++ (x ++ drop (at + length x) l)

-- an end that has `less` bytes before it taken out and `more` put in
unfoldable pub rebased : ℕ → ℕ → ℕ → ℕ
rebased less more e = (e - less) + more

-- Streams 1 to 9 in one lent buffer, in order of arrival. Beside each byte stands its owner, the number of its stream.
use Rattle.std.specs.Prelude.{◌≡◌, ℕ, zero, suc, ◌+◌, ◌-◌, ◌<◌, ◌≤◌, true, false, List, [], ◌∷◌, ◌++◌, length, take, ◌==◌, slice_index, slice_index_or, slice_set}
use Rattle.rules.specs.Bytes.{Bytes}
-- a stream that discards what it is given
pub use Rattle.rules.specs.Streams.{discards}

-- the bytes that stream i owns, in order
unfoldable pub owned_by : ℕ → List ℕ → Bytes → Bytes
owned_by i [] bs = []
owned_by i (o ∷ os) [] = []
owned_by i (o ∷ os) (b ∷ bs) = elim (o == i) [ true ↦ b ∷ owned_by i os bs | false ↦ owned_by i os bs ]

-- 1 where a byte with the owner o is one of stream i, else 0
unfoldable pub owns_one : ℕ → ℕ → ℕ
owns_one o i = elim (o == i) [ true ↦ 1 | false ↦ 0 ]

-- how many bytes stream i owns
unfoldable pub owned_count : ℕ → List ℕ → ℕ
owned_count i [] = 0
owned_count i (o ∷ os) = owns_one o i + owned_count i os

-- how many bytes the streams below i own: where stream i begins once they stand in order
unfoldable pub owned_below : ℕ → List ℕ → ℕ
owned_below zero os = 0
owned_below (suc i) os = owned_below i os + owned_count i os

-- the sum of the first i numbers
unfoldable pub sum_below : ℕ → List ℕ → ℕ
sum_below zero ns = 0
sum_below (suc i) ns = sum_below i ns + slice_index ns i

-- ten numbers, each by its rule
pub record Ten (rule : ℕ → ℕ) (ns : List ℕ) : Type 0 where
  pub ten : length ns ≡ 10
  pub each : (i : ℕ) → i < 10 → slice_index ns i ≡ rule i

-- the number of a stream that waits for the end
pub record IsStream (i : ℕ) : Type 0 where
  pub low : 1 ≤ i
  pub high : i ≤ 9

-- the first `used` places of both lie in them, and each byte there belongs to a stream
pub record Owned (bytes : Bytes) (owners : List ℕ) (used : ℕ) : Type 0 where
  pub in_bytes : used ≤ length bytes
  pub in_owners : used ≤ length owners
  pub numbered : (k : ℕ) → k < used → IsStream (slice_index owners k)

-- the first `used` bytes hold the nine texts that wait; what lies behind them is free
pub record StreamsIn (bytes : Bytes) (owners : List ℕ) (used : ℕ) (waiting : List Bytes) : Type 0 where
  pub owned : Owned bytes owners used
  pub nine : length waiting ≡ 9
  pub texts : (i : ℕ) → i < 9 → slice_index_or waiting i [] ≡ owned_by (suc i) (take used owners) (take used bytes)

-- s behind the text of stream i
unfoldable pub extended : ℕ → Bytes → List Bytes → List Bytes
extended i s waiting = slice_set waiting (i - 1) (slice_index_or waiting (i - 1) [] ++ s)

-- the text of stream i goes behind that of stream j
unfoldable pub behind_stream : ℕ → ℕ → List Bytes → List Bytes
behind_stream i j waiting = slice_set (slice_set waiting (i - 1) []) (j - 1) (slice_index_or waiting (j - 1) [] ++ slice_index_or waiting (i - 1) [])

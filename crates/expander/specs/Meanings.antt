-- The meaning of each definition as a byte: behind the ends of the table's strings, four in a word, the least first.
use Rattle.std.specs.Prelude.{◌≡◌, ℕ, ◌+◌, ◌<◌, ◌≤◌, List, take, drop, ◌≢◌}
use Rattle.expander.specs.Fields.{field_at}
use Rattle.expander.specs.Limits.{meanings_start, links_start}

-- the byte of definition i
unfoldable pub number_at : List ℕ → ℕ → ℕ
number_at = field_at 8 meanings_start

-- the byte of definition i is another one; all others, the ends before them and the chains behind them are as they were
pub record Put (before : List ℕ) (i number : ℕ) (after : List ℕ) : Type 0 where
  pub same : number_at after i ≡ number
  pub others : (j : ℕ) → (j ≢ i) → number_at after j ≡ number_at before j
  pub ends : take meanings_start after ≡ take meanings_start before
  pub chains : drop links_start after ≡ drop links_start before

-- of n bytes that of definition i has gone, and those behind it have moved down by one
pub record ClosedUp (before : List ℕ) (i n : ℕ) (after : List ℕ) : Type 0 where
  pub front : (j : ℕ) → j < i → number_at after j ≡ number_at before j
  pub moved : (j : ℕ) → i ≤ j → j + 1 < n → number_at after j ≡ number_at before (j + 1)
  pub ends : take meanings_start after ≡ take meanings_start before
  pub chains : drop links_start after ≡ drop links_start before

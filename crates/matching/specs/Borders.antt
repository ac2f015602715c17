-- Borders: the texts that a text both begins and ends with. Texts are read by index; past the end stands 0.
use Rattle.std.specs.Prelude.{ℕ, ◌+◌, ◌-◌, ◌≤◌, ◌<◌, ◌≡◌, List, get_or}
use Rattle.rules.specs.Bytes.{Bytes}

-- the first k bytes of p stand at a in t
pub record Stands (p t : Bytes) (k a : ℕ) : Type 0 where
  pub same : (x : ℕ) → x < k → get_or p x 0 ≡ get_or t (a + x) 0

-- of the borders of p's first k bytes, these themselves left out, the longest has f bytes
pub record Longest (p : Bytes) (k f : ℕ) : Type 0 where
  pub shorter : f < k
  pub border : Stands p p f (k - f)
  pub longest : (g : ℕ) → f < g → g < k → Stands p p g (k - g) → ⊥

-- the table has that length for each front of p up to n bytes
pub record Bordered (p : Bytes) (t : List ℕ) (n : ℕ) : Type 0 where
  pub front : (k : ℕ) → 0 < k → k ≤ n → Longest p k (get_or t (k - 1) 0)

-- where p's first k bytes are followed by x: of the fronts of p that they and x end with, of k + 1 bytes at most, the longest has r bytes
pub record GoesOn (p : Bytes) (k x r : ℕ) : Type 0 where
  pub within : r ≤ k + 1
  pub stands : (f : ℕ) → r ≡ f + 1 → Stands p p f (k - f) × (get_or p f 0 ≡ x)
  pub longest : (g : ℕ) → r ≤ g → g ≤ k → Stands p p g (k - g) → get_or p g 0 ≡ x → ⊥

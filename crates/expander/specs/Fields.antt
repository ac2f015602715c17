-- Numbers of 8 or of 16 bits, packed in the words that stand from a place on, the least first.
use Rattle.std.specs.Prelude.{◌≡◌, ℕ, ◌+◌, ◌*◌, ◌/◌, ◌%◌, ◌^◌, ◌<◌, ◌⊎◌, List, take, drop, ◌≢◌, slice_index}

-- four in a word, or two
abbrev pub IsWidth : ℕ → Type 0
IsWidth w = (w ≡ 8) ⊎ (w ≡ 16)

-- number j of a word
unfoldable pub field_of : ℕ → ℕ → ℕ → ℕ
field_of w j word = word / 2 ^ (w * j) % 2 ^ w

-- number i of the words from `start` on
unfoldable pub field_at : ℕ → ℕ → List ℕ → ℕ → ℕ
field_at w start words i = field_of w (i % (32 / w)) (slice_index words (start + i / (32 / w)))

-- number i is another one; all others, and the words before and behind its own, are as they were
pub record FieldPut (w start : ℕ) (before : List ℕ) (i x : ℕ) (after : List ℕ) : Type 0 where
  pub same : field_at w start after i ≡ x
  pub others : (j : ℕ) → (j ≢ i) → field_at w start after j ≡ field_at w start before j
  pub front : take start after ≡ take start before
  pub behind : (c : ℕ) → start + i / (32 / w) < c → drop c after ≡ drop c before

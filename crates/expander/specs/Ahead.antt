-- Counts of bytes in the text ahead.
use Rattle.std.specs.Prelude.{◌≡◌, ℕ, suc, ◌+◌, ◌^◌, ◌<◌, ◌≤◌, Bool, true, false, not, ◌&&◌, [], ◌∷◌, length, drop, ◌==◌}
use Rattle.rules.specs.Bytes.{Bytes}
use Rattle.rules.specs.Macros.{line_length}

-- how many bytes at the front pass a test
unfoldable pub count_while : (ℕ → Bool) → Bytes → ℕ
count_while p [] = 0
count_while p (x ∷ xs) = elim (p x) [ true ↦ suc (count_while p xs) | false ↦ 0 ]

-- the byte x is neither a nor b
unfoldable pub is_other : ℕ → ℕ → ℕ → Bool
is_other a b x = not (x == a) && not (x == b)

-- how many bytes at the front are neither a nor b
unfoldable pub plain_length : ℕ → ℕ → Bytes → ℕ
plain_length a b text = count_while (is_other a b) text

-- r is the length of a text, and one more fits a machine word
pub record AheadLength (text : Bytes) (r : ℕ) : Type 0 where
  pub whole : r ≡ length text
  pub small : r + 1 < 2 ^ 64

-- r is the first place from i on where a or b stands, or the end of the text
pub record NextEither (text : Bytes) (i a b r : ℕ) : Type 0 where
  pub place : r ≡ i + plain_length a b (drop i text)
  pub from : i ≤ r
  pub within : r ≤ length text

-- r is how many bytes run through the next newline of a text, or all
pub record LineEnd (text : Bytes) (r : ℕ) : Type 0 where
  pub line : r ≡ line_length text
  pub within : r ≤ length text

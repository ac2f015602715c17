-- The form in which named texts are stored, 02's "house form": "one byte of kind, then a body whose length the kind fixes".
use Rattle.std.specs.Prelude.{ℕ, zero, suc, ◌+◌, ◌-◌, ◌*◌, ◌/◌, ◌%◌, min, true, false, [], ◌∷◌, eqb, length, Option, None, Some}
use Rattle.rules.specs.Bytes.{Bytes}

-- 02, request 1 "32-bit, least byte first": the number that bytes stand for, and so many bytes of a number
unfoldable pub least_first : Bytes → ℕ
least_first [] = 0
least_first (x ∷ xs) = x + 256 * least_first xs

unfoldable pub bytes_least_first : ℕ → ℕ → Bytes
bytes_least_first zero n = []
bytes_least_first (suc count) n = n % 256 ∷ bytes_least_first count (n / 256)

-- "Kinds 1 to 128 carry that many bytes", "in chunks, each full at 128 except the last": the kind of the chunk that comes when so many
-- bytes are still to come
unfoldable pub chunk_kind : ℕ → ℕ
chunk_kind owed = min owed 128

-- ---- reading

-- the bytes that chunks carry, and what stands behind the chunks
pub record Carried : Type 0 where
  pub bytes : Bytes
  pub rest : Bytes

unfoldable pub and_byte : ℕ → Option Carried → Option Carried
and_byte x None = None
and_byte x (Some c) = Some (record { bytes = x ∷ c.bytes; rest = c.rest })

-- `owed` bytes are still to come, `left` of them in the chunk that has begun; where none is left, the next byte is a kind
unfoldable pub carried : Bytes → ℕ → ℕ → Option Carried
carried [] zero zero = Some (record { bytes = []; rest = [] })
carried [] zero (suc left) = None
carried [] (suc owed) left = None
carried (x ∷ w) zero zero = Some (record { bytes = []; rest = x ∷ w })
carried (x ∷ w) zero (suc left) = None
carried (kind ∷ w) (suc owed) zero = elim (eqb kind (chunk_kind (suc owed))) [ true ↦ carried w (suc owed) kind | false ↦ None ]
carried (x ∷ w) (suc owed) (suc left) = and_byte x (carried w owed left)

-- so many bytes in chunks
unfoldable pub chunks_read : ℕ → Bytes → Option Carried
chunks_read owed w = carried w owed 0

-- ---- writing

-- a text, `left` bytes of it in the chunk that has begun
unfoldable pub chunked_from : Bytes → ℕ → Bytes
chunked_from [] left = []
chunked_from (x ∷ w) zero = let kind = chunk_kind (suc (length w)) in kind ∷ x ∷ chunked_from w (kind - 1)
chunked_from (x ∷ w) (suc left) = x ∷ chunked_from w left

unfoldable pub chunked : Bytes → Bytes
chunked w = chunked_from w 0

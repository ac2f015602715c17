-- The table of partners, a text with its bytes replaced by a table, and what writing it leaves.
use Rattle.std.specs.Prelude.{ℕ, zero, suc, ◌≡◌, Bool, true, false, List, [], ◌∷◌, ◌++◌, ltb, eqb, length, take, drop, get_or}
use Rattle.rules.specs.Bytes.{Bytes}
use Rattle.rules.specs.Results.{partner}

-- the byte x is one of the bytes that are replaced
unfoldable pub is_among : ℕ → Bytes → Bool
is_among x [] = false
is_among x (b ∷ bs) = elim (eqb b x) [ true ↦ true | false ↦ is_among x bs ]

-- entries that are no byte: the byte itself stands there, or nothing
abbrev pub stays : ℕ
stays = 256

abbrev pub nothing : ℕ
nothing = 257

-- what stands for a byte, as an entry: the byte that stands there, or that it is nothing
unfoldable pub standing : Bytes → ℕ
standing [] = nothing
standing (y ∷ ys) = y

-- the entry of the byte x: what the rules put for it, if it is replaced
unfoldable pub entry_of : Bytes → Bytes → ℕ → ℕ
entry_of bs ys x = elim (is_among x bs) [ true ↦ standing (partner bs ys x) | false ↦ stays ]

-- the entries of n bytes from x on
unfoldable pub entries : Bytes → Bytes → ℕ → ℕ → List ℕ
entries bs ys x zero = []
entries bs ys x (suc n) = entry_of bs ys x ∷ entries bs ys (suc x) n

-- the table of partners: the entry of each byte
unfoldable pub partner_table : Bytes → Bytes → List ℕ
partner_table bs ys = entries bs ys 0 256

-- what an entry puts for the byte x: the byte that it is, x itself, or nothing
unfoldable pub entry_for : ℕ → ℕ → Bytes
entry_for x e = elim (ltb e 256) [ true ↦ e ∷ [] | false ↦ elim (eqb e stays) [ true ↦ x ∷ [] | false ↦ [] ] ]

-- what a table puts for x: a byte has an entry, and what is no byte stays
unfoldable pub put_by : List ℕ → ℕ → Bytes
put_by t x = elim (ltb x 256) [ true ↦ entry_for x (get_or t x 0) | false ↦ x ∷ [] ]

-- a text replaced by a table
unfoldable pub replaced : List ℕ → Bytes → Bytes
replaced t [] = []
replaced t (x ∷ xs) = put_by t x ++ replaced t xs

-- the text is written from the front of the slice on, as far as there is room, and what is left of the slice stays; the answer is whether
-- it just fits
pub record Fitted (text before : Bytes) (answer : Bool) (after : Bytes) : Type 0 where
  pub equal : answer ≡ eqb (length text) (length before)
  pub written : after ≡ take (length before) text ++ drop (length text) before

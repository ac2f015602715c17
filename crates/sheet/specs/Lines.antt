-- Where a line ends.
use Rattle.std.specs.Prelude.{ℕ, Bool, not, eqb}
use Prim.Native.Char.{code}
use Rattle.rules.specs.Bytes.{Bytes}
use Rattle.rules.specs.Sheets.{front_length}

unfoldable pub is_in_line : ℕ → Bool
is_in_line x = not (eqb x (code "\n"))

-- how many bytes stand before the first newline, or all
unfoldable pub until_newline : Bytes → ℕ
until_newline s = front_length is_in_line s

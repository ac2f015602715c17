-- Where a text first stands in another, as `first_place` answers it.
use Rattle.std.specs.Prelude.{ℕ, true, false, ◌&&◌, leb, ltb, length, Option, Result, Ok, Err}
use Rattle.rules.specs.Bytes.{Bytes}
use Rattle.rules.specs.Tokens.{first_place}
use Rattle.matching.specs.declared.TooLong.{TooLong}

-- the longest needle that is looked for
abbrev pub longest_needle : ℕ
longest_needle = 32768

-- no answer only where the needle is longer and the text no shorter
unfoldable pub placed : Bytes → Bytes → Result (Option ℕ) TooLong
placed needle text =
    elim (leb (length needle) (length text) && ltb longest_needle (length needle)) [ true ↦ Err (record {}) | false ↦ Ok (first_place needle text) ]

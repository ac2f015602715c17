-- What the functions of this crate answer, in terms of the book of rules.
use Rattle.std.specs.Prelude.{◌≡◌, ℕ, Bool, true, false, cond, ◌&&◌, length, ◌==◌, nat_le, Option, None, Some}
use Rattle.rules.specs.Bytes.{Bytes}

-- a radix that numbers are written in: 2 to 36
unfoldable pub is_radix : ℕ → Bool
is_radix radix = nat_le 2 radix && nat_le radix 36

-- how long a text in a radix is
unfoldable pub length_of : ℕ → Bytes → Option ℕ
length_of radix text = elim (is_radix radix) [ true ↦ Some (length text) | false ↦ None ]

-- the text stands in the slice, where the radix is good and the slice is as long as the text; else nothing is written, and the answer is false
pub record Written (good : Bool) (text before : Bytes) (answer : Bool) (after : Bytes) : Type 0 where
  pub fits : answer ≡ good && length text == length before
  pub written : after ≡ cond (good && length text == length before) text before

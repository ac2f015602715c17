-- What copying one slice into another leaves.
use Rattle.std.specs.Prelude.{◌≡◌, Bool, cond, eqb, length}
use Rattle.rules.specs.Bytes.{Bytes}

-- the slice copied, where the lengths are equal; else nothing is written, and the answer is false
pub record Copied (source before : Bytes) (answer : Bool) (after : Bytes) : Type 0 where
  pub equal : answer ≡ eqb (length source) (length before)
  pub written : after ≡ cond (eqb (length source) (length before)) source before

-- A text at the front of a buffer.
use Rattle.std.specs.Prelude.{◌≡◌, ℕ, ◌≤◌, length, take}
use Rattle.rules.specs.Bytes.{Bytes}

-- the first n bytes are the text; what stands behind them is free
pub record Front (buffer : Bytes) (n : ℕ) (w : Bytes) : Type 0 where
  pub text_is : take n buffer ≡ w
  pub inside : n ≤ length buffer

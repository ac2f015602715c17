-- A text written into a buffer at a place.
use Rattle.std.specs.Prelude.{◌≡◌, ℕ, ◌+◌, ◌≤◌, ◌++◌, length, take, drop}
use Rattle.rules.specs.Bytes.{Bytes}

pub record Filled (before : Bytes) (at : ℕ) (w after : Bytes) : Type 0 where
  pub fits : at + length w ≤ length before
  pub is : after ≡ take at before ++ (w ++ drop (at + length w) before)

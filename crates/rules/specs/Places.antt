-- A place in a list, where there is one.
use Rattle.std.specs.Prelude.{ℕ, suc, Option, None, Some}

-- the same place, counted from one element further in front
unfoldable pub plus_one : Option ℕ → Option ℕ
plus_one None = None
plus_one (Some n) = Some (suc n)

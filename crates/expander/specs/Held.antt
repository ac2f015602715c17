-- What holds of the strings that are the arguments of a call, and which they are.
use Rattle.std.specs.Prelude.{ℕ, ◌≤◌, List, length, drop}
use Rattle.rules.specs.Bytes.{Bytes}
use Rattle.expander.specs.declared.packed.Packed.{Packed}
use Rattle.expander.specs.Limits.{most_lent, call_ends_length}
use Rattle.expander.specs.Packed.{Packs, strings_in}

-- the strings from `base` on
unfoldable pub strings_from : List ℕ → Packed → Bytes → ℕ → List Bytes
strings_from ends strings bytes base = drop base (strings_in ends strings.count bytes)

-- they are packed, and there are no more than the links have room for
pub record Held (bytes : Bytes) (ends : List ℕ) (strings : Packed) (base : ℕ) : Type 0 where
  pub packs : Packs ends strings.count bytes strings.used (strings_in ends strings.count bytes)
  pub base_in : base ≤ strings.count
  pub few : strings.count ≤ call_ends_length
  pub short : length bytes ≤ most_lent

-- The text ahead: 01 "the pending text followed by the rest of the input, as one string".
use Rattle.std.specs.Prelude.{ℕ, ◌+◌, ◌-◌, [], ◌++◌, length, drop}
use Rattle.rules.specs.Bytes.{Bytes}

-- the pending text, the rest of the input, and the count of input bytes taken: 01's "place"
pub record Source : Type 0 where
  pub pending : Bytes
  pub rest : Bytes
  pub taken : ℕ

unfoldable pub ahead : Source → Bytes
ahead s = s.pending ++ s.rest

-- n bytes of the text ahead are taken: pending text first, then input, which alone counts in the place
unfoldable pub advance : ℕ → Source → Source
advance n s =
    let k = n - length s.pending in
    record { pending = drop n s.pending; rest = drop k s.rest; taken = s.taken + k }

-- 01 "The result goes in front of the text ahead"
unfoldable pub push_back : Bytes → Source → Source
push_back w s = record { pending = w ++ s.pending; rest = s.rest; taken = s.taken }

unfoldable pub source_of : Bytes → Source
source_of text = record { pending = []; rest = text; taken = 0 }

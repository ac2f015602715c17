-- The text ahead in its two buffers.
use Rattle.std.specs.Prelude.{◌≡◌, ℕ, ◌+◌, ◌-◌, ◌≤◌, ◌++◌, length, drop}
use Rattle.rules.specs.Bytes.{Bytes}
use Rattle.rules.specs.Source.{Source}
use Rattle.expander.specs.declared.source.Position.{Position}
use Rattle.expander.specs.declared.source.Ahead.{Ahead}

-- the pending text is what stands in its buffer from `from` on, the rest of the input what stands in the text from `taken` on
pub record SourceIn (text pending : Bytes) (p : Position) (x : Source) : Type 0 where
  pub from_in : p.from ≤ length pending
  pub taken_in : p.taken ≤ length text
  pub pending_is : x.pending ≡ drop p.from pending
  pub rest_is : x.rest ≡ drop p.taken text
  pub taken_is : x.taken ≡ p.taken

-- how many bytes are ahead of a position
abbrev pub ahead_of : Bytes → Bytes → Position → ℕ
ahead_of text pending p = (length pending - p.from) + (length text - p.taken)

-- and these bytes
abbrev pub bytes_ahead : Bytes → Bytes → Position → Bytes
bytes_ahead text pending p = drop p.from pending ++ drop p.taken text

-- the same, as it is lent
abbrev pub bytes_of : Ahead → Bytes
bytes_of t = t.front.now ++ t.rest.now

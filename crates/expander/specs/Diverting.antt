-- The streams that undivert moves in turn, and what its functions ask of the buffers.
use Rattle.std.specs.Prelude.{◌≡◌, ℕ, ◌-◌, ◌≤◌, Bool, true, false, ◌⊎◌, List, [], ◌∷◌, length, pos, ◌==◌, ◌≢◌, slice_index, slice_index_or, unwrap_or}
use Rattle.rules.specs.Bytes.{Bytes}
use Rattle.rules.specs.Numerals.{number}
use Rattle.rules.specs.Arguments.{bounded}
use Rattle.rules.specs.Streams.{Streams}
use Rattle.expander.specs.declared.sinks.Sinks.{Sinks}
use Rattle.expander.specs.Streams.{IsStream}
use Rattle.expander.specs.Sinks.{SinksIn}

-- the stream that an argument names; 0: none
unfoldable pub stream_of : Bytes → ℕ
stream_of a = unwrap_or (bounded 1 9 (number a)) 0

unfoldable pub all_named : List Bytes → Bool
all_named [] = true
all_named (a ∷ more) = elim (stream_of a == 0) [ true ↦ false | false ↦ all_named more ]

unfoldable pub streams_of : List Bytes → List ℕ
streams_of [] = []
streams_of (a ∷ more) = stream_of a ∷ streams_of more

-- the streams that arguments name, or all nine
unfoldable pub turns : List Bytes → List ℕ
turns [] = 1 ∷ 2 ∷ 3 ∷ 4 ∷ 5 ∷ 6 ∷ 7 ∷ 8 ∷ 9 ∷ []
turns (a ∷ more) = streams_of (a ∷ more)

-- some texts stand in the buffers, and what `made` makes of them fits: what moves ask; `scratch` has room for any of them
pub record SomeSinks (streams : Bytes) (owners : List ℕ) (output scratch : Bytes) (k : Sinks) (made : Streams → Streams) : Type 0 where
  pub held : Streams
  pub are : SinksIn streams owners output k held
  pub fits : length (made held).output ≤ length output
  pub room : length streams ≤ length scratch

-- a move of stream i changes nothing: it is the current one, or empty
unfoldable pub Idle : ℕ → Streams → Type 0
Idle i u = (u.current ≡ pos i) ⊎ (slice_index_or u.waiting (i - 1) [] ≡ [])

-- each stream that is marked was moved
pub record Seen (seen : List ℕ) (u : Streams) : Type 0 where
  pub ten : length seen ≡ 10
  pub idle : (i : ℕ) → IsStream i → (slice_index seen i ≢ 0) → Idle i u

-- moves go to the output, and each stream has as many bytes as the counts say
pub record Leaving (counts : List ℕ) (u : Streams) : Type 0 where
  pub out : u.current ≡ pos 0
  pub nine : length u.waiting ≡ 9
  pub ten : length counts ≡ 10
  pub long : (i : ℕ) → IsStream i → length (slice_index_or u.waiting (i - 1) []) ≡ slice_index counts i

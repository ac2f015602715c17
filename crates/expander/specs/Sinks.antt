-- The output and the streams in their buffers.
use Rattle.std.specs.Prelude.{◌≡◌, ℕ, ℤ, ◌-◌, ◌≤◌, cond, List, Option, None, length, nat_lt}
use Rattle.std.specs.Bool.{then_some}
use Rattle.rules.specs.Bytes.{Bytes}
use Rattle.rules.specs.Streams.{Streams, is_current, discards}
use Rattle.expander.specs.declared.sinks.Sinks.{Sinks}
use Rattle.expander.specs.Limits.{most_lent}
use Rattle.expander.specs.Front.{Front}
use Rattle.expander.specs.Streams.{StreamsIn}

pub record SinksIn (streams : Bytes) (owners : List ℕ) (output : Bytes) (k : Sinks) (x : Streams) : Type 0 where
  pub waiting : StreamsIn streams owners k.waiting x.waiting
  pub written : Front output k.output x.output
  pub current : x.current ≡ k.current

-- the buffer that n bytes more to a stream would overfill, of the room left in buffers 4 and 7; none if they fit
unfoldable pub full_buffer : ℤ → ℕ → ℕ → ℕ → Option ℕ
full_buffer current n streams output =
    cond (is_current 0 current) (then_some (nat_lt output n) 7) (cond (discards current) None (then_some (nat_lt streams n) 4))

-- n bytes more fit
pub record Fits (streams : Bytes) (owners : List ℕ) (output : Bytes) (k : Sinks) (n : ℕ) : Type 0 where
  pub waiting_in_lem : k.waiting ≤ length streams
  pub output_in : k.output ≤ length output
  pub none_full : full_buffer k.current n (length streams - k.waiting) (length output - k.output) ≡ None
  pub owners_long : length owners ≡ most_lent
  pub streams_short : length streams ≤ most_lent
  pub output_short : length output ≤ most_lent

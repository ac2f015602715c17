-- The open calls in buffer 2, and the links beside it.
use Rattle.std.specs.Prelude.{◌≡◌, ℕ, ◌+◌, ◌*◌, ◌≤◌, Bool, true, false, List, [], ◌∷◌, ◌++◌, length, slice_index}
use Rattle.rules.specs.Bytes.{Bytes}
use Rattle.rules.specs.State.{Call}
use Rattle.hashing.specs.Hashing.{bucket_of}
use Rattle.expander.specs.declared.calls.Calls.{Calls}
use Rattle.expander.specs.Limits.{most_lent, most_calls, most_arguments, call_ends_length, stack_length}
use Rattle.expander.specs.Packed.{Packs}

-- the strings of a call: its name, the finished arguments, the one being collected
unfoldable pub call_strings : Call → List Bytes
call_strings c = c.name ∷ (c.finished ++ (c.current ∷ []))

-- those of all open calls, outermost first
unfoldable pub open_strings : List Call → List Bytes
open_strings [] = []
open_strings (c ∷ cs) = open_strings cs ++ call_strings c

unfoldable pub bit : Bool → ℕ
bit true = 1
bit false = 0

-- four words for each open call: the number of its first string, its depth of parentheses, whether it collected a token, the bucket of its name
unfoldable pub Stacked : List ℕ → List Call → Type 0
Stacked st [] = Unit {0}
Stacked st (c ∷ cs) =
    (slice_index st (4 * length cs) ≡ length (open_strings cs))
    × (slice_index st (4 * length cs + 1) ≡ c.depth)
    × (slice_index st (4 * length cs + 2) ≡ bit c.collected)
    × (slice_index st (4 * length cs + 3) ≡ bucket_of c.name)
    × (c.depth ≤ length c.current)
    × Stacked st cs

pub record CallsIn (bytes : Bytes) (ends stack : List ℕ) (x : Calls) (cs : List Call) : Type 0 where
  pub strings : Packs ends x.strings.count bytes x.strings.used (open_strings cs)
  pub open_is : length cs ≡ x.opens
  pub stacked : Stacked stack cs
  pub open_few : x.opens ≤ most_calls
  pub args_few : x.strings.count ≤ x.opens + most_arguments

-- the links are as long as they should be
pub record CallLinks (ends stack : List ℕ) : Type 0 where
  pub ends_long : length ends ≡ call_ends_length
  pub stack_long : length stack ≡ stack_length

-- some calls are open in some buffer: what a function asks that has the links alone
pub record SomeCalls (ends stack : List ℕ) (x : Calls) : Type 0 where
  pub bytes : Bytes
  pub calls : List Call
  pub are : CallsIn bytes ends stack x calls
  pub short : length bytes ≤ most_lent
  pub links : CallLinks ends stack

-- some calls are open, and n bytes more fit behind their strings
pub record CallRoom (bytes : Bytes) (ends stack : List ℕ) (x : Calls) (n : ℕ) : Type 0 where
  pub calls : List Call
  pub are : CallsIn bytes ends stack x calls
  pub short : length bytes ≤ most_lent
  pub links : CallLinks ends stack
  pub fits : x.strings.used + n ≤ length bytes

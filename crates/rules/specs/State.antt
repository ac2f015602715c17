-- The standing state, and what a step makes of it.
use Rattle.std.specs.Prelude.{ℕ, Bool, List, [], ◌∷◌}
use Rattle.rules.specs.Bytes.{Bytes}
use Rattle.rules.specs.Answers.{Ending, Fault}
use Rattle.rules.specs.Marks.{MarkTexts, default_marks}
use Rattle.rules.specs.Source.{Source, advance, push_back, source_of}
use Rattle.rules.specs.Sets.{Item}
use Rattle.rules.specs.Table.{Table, fresh_table}
use Rattle.rules.specs.Streams.{Streams, empty_streams, Change, places, changed_in_turn}

-- an open call: its name, the arguments that are finished, the one being collected, how many parentheses are open in that, and
-- whether a token of it was collected
pub record Call : Type 0 where
  pub name : Bytes
  pub finished : List Bytes
  pub current : Bytes
  pub depth : ℕ
  pub collected : Bool

-- `set` is what may be included, and no step changes it; the open calls are innermost first; `wrap` is the wrap text waiting, joined in
-- call order; `errors` the error text
pub record State : Type 0 where
  pub set : List Item
  pub source : Source
  pub marks : MarkTexts
  pub calls : List Call
  pub table : Table
  pub streams : Streams
  pub wrap : Bytes
  pub errors : Bytes

-- what a step comes to: the next state; an end of the run, with its last state; or a refusal, which leaves the state as it stood.
-- A step knows nothing of room: that is judged on the state after it
pub data Outcome : Type 0 where
  next : State → Outcome
  stop : Ending → State → Outcome
  refused : Fault → Outcome

-- a run starts from a text, a set as it was lent, and a table. (The table is fresh; a stored one is for document 02)
pub record Start : Type 0 where
  pub text : Bytes
  pub set : Bytes
  pub table : Table

unfoldable pub fresh_start : Bytes → Bytes → Start
fresh_start text set = record { text = text; set = set; table = fresh_table }

-- with the items of its set
unfoldable pub start_state : List Item → Start → State
start_state is b =
    record {
      set = is;
      source = source_of b.text;
      marks = default_marks;
      calls = [];
      table = b.table;
      streams = empty_streams;
      wrap = [];
      errors = [];
    }

-- the state with one part replaced
unfoldable pub with_source : Source → State → State
with_source x s =
    record { set = s.set; source = x; marks = s.marks; calls = s.calls; table = s.table; streams = s.streams; wrap = s.wrap; errors = s.errors }

unfoldable pub with_marks : MarkTexts → State → State
with_marks x s =
    record { set = s.set; source = s.source; marks = x; calls = s.calls; table = s.table; streams = s.streams; wrap = s.wrap; errors = s.errors }

unfoldable pub with_calls : List Call → State → State
with_calls x s =
    record { set = s.set; source = s.source; marks = s.marks; calls = x; table = s.table; streams = s.streams; wrap = s.wrap; errors = s.errors }

unfoldable pub with_table : Table → State → State
with_table x s =
    record { set = s.set; source = s.source; marks = s.marks; calls = s.calls; table = x; streams = s.streams; wrap = s.wrap; errors = s.errors }

unfoldable pub with_streams : Streams → State → State
with_streams x s =
    record { set = s.set; source = s.source; marks = s.marks; calls = s.calls; table = s.table; streams = x; wrap = s.wrap; errors = s.errors }

unfoldable pub with_wrap : Bytes → State → State
with_wrap x s =
    record { set = s.set; source = s.source; marks = s.marks; calls = s.calls; table = s.table; streams = s.streams; wrap = x; errors = s.errors }

unfoldable pub with_errors : Bytes → State → State
with_errors x s =
    record { set = s.set; source = s.source; marks = s.marks; calls = s.calls; table = s.table; streams = s.streams; wrap = s.wrap; errors = x }

-- n bytes of the text ahead are taken
unfoldable pub taking : ℕ → State → State
taking n s = with_source (advance n s.source) s

-- a result goes in front of the text ahead
unfoldable pub resulting : Bytes → State → State
resulting w s = with_source (push_back w s.source) s

-- the streams change; no step changes them otherwise
unfoldable pub changing : List Change → State → State
changing cs s = with_streams (changed_in_turn cs s.streams) s

-- bytes go to the current stream
unfoldable pub emitting : Bytes → State → State
emitting w s = changing (places w ∷ []) s

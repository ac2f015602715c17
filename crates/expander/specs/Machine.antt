-- Which state the buffers, the links and the by-value machine represent, and what a step has to give.
use Rattle.std.specs.Prelude.{◌≡◌, ℕ, ◌+◌, ◌≤◌, List, length, Some}
use Rattle.rules.specs.Bytes.{Bytes}
use Rattle.rules.specs.Sets.{set_items}
use Rattle.rules.specs.Marks.{mark_texts}
use Rattle.rules.specs.State.{State, Outcome}
use Rattle.rules.specs.Run.{Setting, lengths}
use Rattle.rules.specs.declared.Marks.{Marks}
use Rattle.expander.specs.declared.calls.Calls.{Calls}
use Rattle.expander.specs.declared.machine.Machine.{Machine}
use Rattle.expander.specs.declared.sinks.Sinks.{Sinks}
use Rattle.expander.specs.declared.source.Position.{Position}
use Rattle.expander.specs.declared.table.Definitions.{Definitions}
use Rattle.expander.specs.declared.machine.Stepped.{Stepped}
use Rattle.expander.specs.declared.machine.Progress.{Progress}
use Rattle.expander.specs.declared.machine.Progress.TheVariants as progress
use Rattle.expander.specs.Limits.{most_lent, call_ends_length, stack_length, table_ends_length}
use Rattle.expander.specs.Source.{SourceIn}
pub use Rattle.expander.specs.Source.{ahead_of, bytes_ahead}
use Rattle.expander.specs.Calls.{CallsIn}
use Rattle.expander.specs.Table.{TableIn}
use Rattle.expander.specs.Tokens.{GoodMarks}
use Rattle.expander.specs.Sinks.{SinksIn}
use Rattle.expander.specs.Front.{Front}
use Rattle.expander.specs.Verdict.{Verdict, going, over, denied, verdict}

-- the text and the set, the lent buffers, and the links and texts beside them that belong to the run. `errors` and `output` are the run's own, as long as the
-- lent ones, which are written only when the run has finished
pub record Memory : Type 0 where
  pub text : Bytes
  pub set : Bytes
  pub pending : Bytes
  pub calls : Bytes
  pub call_ends : List ℕ
  pub stack : List ℕ
  pub definitions : Bytes
  pub table_ends : List ℕ
  pub streams : Bytes
  pub owners : List ℕ
  pub wrap : Bytes
  pub errors : Bytes
  pub output : Bytes

abbrev pub memory :
    Bytes → Bytes → Bytes → Bytes → List ℕ → List ℕ → Bytes → List ℕ → Bytes → List ℕ → Bytes → Bytes → Bytes → Memory
memory text set pending calls call_ends stack definitions table_ends streams owners wrap errors output =
    record {
      text = text;
      set = set;
      pending = pending;
      calls = calls;
      call_ends = call_ends;
      stack = stack;
      definitions = definitions;
      table_ends = table_ends;
      streams = streams;
      owners = owners;
      wrap = wrap;
      errors = errors;
      output = output;
    }

-- the memory with some of its parts replaced: a function is lent these, and its promise holds whatever the others hold
abbrev pub text_at : Bytes → Memory → Memory
text_at text b =
    memory text b.set b.pending b.calls b.call_ends b.stack b.definitions b.table_ends b.streams b.owners b.wrap b.errors b.output

abbrev pub input_at : Bytes → Bytes → Memory → Memory
input_at text set b =
    memory text set b.pending b.calls b.call_ends b.stack b.definitions b.table_ends b.streams b.owners b.wrap b.errors b.output

abbrev pub set_at : Bytes → Memory → Memory
set_at set b =
    memory b.text set b.pending b.calls b.call_ends b.stack b.definitions b.table_ends b.streams b.owners b.wrap b.errors b.output

abbrev pub pending_at : Bytes → Memory → Memory
pending_at pending b =
    memory b.text b.set pending b.calls b.call_ends b.stack b.definitions b.table_ends b.streams b.owners b.wrap b.errors b.output

abbrev pub strings_at : Bytes → List ℕ → Memory → Memory
strings_at calls call_ends b =
    memory b.text b.set b.pending calls call_ends b.stack b.definitions b.table_ends b.streams b.owners b.wrap b.errors b.output

abbrev pub stack_at : List ℕ → Memory → Memory
stack_at stack b =
    memory b.text b.set b.pending b.calls b.call_ends stack b.definitions b.table_ends b.streams b.owners b.wrap b.errors b.output

abbrev pub calls_at : Bytes → List ℕ → List ℕ → Memory → Memory
calls_at calls call_ends stack b =
    memory b.text b.set b.pending calls call_ends stack b.definitions b.table_ends b.streams b.owners b.wrap b.errors b.output

abbrev pub definitions_at : Bytes → List ℕ → Memory → Memory
definitions_at definitions table_ends b =
    memory b.text b.set b.pending b.calls b.call_ends b.stack definitions table_ends b.streams b.owners b.wrap b.errors b.output

abbrev pub sinks_at : Bytes → List ℕ → Bytes → Memory → Memory
sinks_at streams owners output b =
    memory b.text b.set b.pending b.calls b.call_ends b.stack b.definitions b.table_ends streams owners b.wrap b.errors output

abbrev pub wrap_at : Bytes → Memory → Memory
wrap_at wrap b =
    memory b.text b.set b.pending b.calls b.call_ends b.stack b.definitions b.table_ends b.streams b.owners wrap b.errors b.output

abbrev pub errors_at : Bytes → Memory → Memory
errors_at errors b =
    memory b.text b.set b.pending b.calls b.call_ends b.stack b.definitions b.table_ends b.streams b.owners b.wrap errors b.output

-- how much is lent, and how long the links are
pub record Limits (a : Setting) (b : Memory) : Type 0 where
  pub text : length b.text ≤ most_lent
  pub pending : a.pending ≡ length b.pending
  pub pending_most : length b.pending ≤ most_lent
  pub calls : a.calls ≡ length b.calls
  pub calls_most : length b.calls ≤ most_lent
  pub definitions : a.definitions ≡ length b.definitions
  pub definitions_most : length b.definitions ≤ most_lent
  pub streams : a.streams ≡ length b.streams
  pub streams_most : length b.streams ≤ most_lent
  pub wrap : a.wrap ≡ length b.wrap
  pub wrap_most : length b.wrap ≤ most_lent
  pub errors : a.errors ≡ length b.errors
  pub errors_most : length b.errors ≤ most_lent
  pub output : a.output ≡ length b.output
  pub output_most : length b.output ≤ most_lent
  pub call_ends : length b.call_ends ≡ call_ends_length
  pub stack : length b.stack ≡ stack_length
  pub table_ends : length b.table_ends ≡ table_ends_length
  pub owners : length b.owners ≡ most_lent

-- with the lengths of the setting a lent, the memory b and the machine m represent the state s, part by part
pub record Represents (a : Setting) (b : Memory) (m : Machine) (s : State) : Type 0 where
  pub set : set_items b.set ≡ Some s.set
  pub source : SourceIn b.text b.pending m.source s.source
  pub marks : s.marks ≡ mark_texts m.marks
  pub marks_good : GoodMarks m.marks
  pub calls : CallsIn b.calls b.call_ends b.stack m.calls s.calls
  pub table : TableIn b.definitions b.table_ends m.table.packed m.table.own s.table
  pub sinks : SinksIn b.streams b.owners b.output m.sinks s.streams
  pub wrap : Front b.wrap m.wrap s.wrap
  pub errors : Front b.errors m.errors s.errors
  pub limits : Limits a b

-- the machine with one part replaced
abbrev pub marks_set : Marks → Machine → Machine
marks_set x m =
    record { marks = x; source = m.source; calls = m.calls; table = m.table; sinks = m.sinks; wrap = m.wrap; errors = m.errors }

abbrev pub source_set : Position → Machine → Machine
source_set x m =
    record { marks = m.marks; source = x; calls = m.calls; table = m.table; sinks = m.sinks; wrap = m.wrap; errors = m.errors }

abbrev pub calls_set : Calls → Machine → Machine
calls_set x m =
    record { marks = m.marks; source = m.source; calls = x; table = m.table; sinks = m.sinks; wrap = m.wrap; errors = m.errors }

abbrev pub table_set : Definitions → Machine → Machine
table_set x m =
    record { marks = m.marks; source = m.source; calls = m.calls; table = x; sinks = m.sinks; wrap = m.wrap; errors = m.errors }

abbrev pub sinks_set : Sinks → Machine → Machine
sinks_set x m =
    record { marks = m.marks; source = m.source; calls = m.calls; table = m.table; sinks = x; wrap = m.wrap; errors = m.errors }

abbrev pub wrap_set : ℕ → Machine → Machine
wrap_set x m =
    record { marks = m.marks; source = m.source; calls = m.calls; table = m.table; sinks = m.sinks; wrap = x; errors = m.errors }

abbrev pub errors_set : ℕ → Machine → Machine
errors_set x m =
    record { marks = m.marks; source = m.source; calls = m.calls; table = m.table; sinks = m.sinks; wrap = m.wrap; errors = x }

-- what a step gives, of its parts
abbrev pub stepped : Progress → Machine → Stepped
stepped w m = record { progress = w; machine = m }

-- some state is represented, for some content of the parts of the memory that are not lent: what a function of the step asks
pub record Valid (lent : Memory → Memory) (m : Machine) : Type 0 where
  pub others : Memory
  pub setting : Setting
  pub state : State
  pub represents : Represents setting (lent others) m state

-- the same for a function that is lent some parts of the machine, whatever the others are
pub record ValidAt (lent : Memory → Memory) (made : Machine → Machine) : Type 0 where
  pub machine : Machine
  pub valid : Valid lent (made machine)

-- n bytes from `start` on, and `width` bytes, are ahead
pub record Reach (text pending : Bytes) (p : Position) (start n width : ℕ) : Type 0 where
  pub some : start + n ≤ ahead_of text pending p
  pub whole : width ≤ ahead_of text pending p

-- what a function leaves, from the memory `before`, by the verdict on its outcome. A refused step has written nothing; of its machine nothing is
-- said, since the caller has the one before it
unfoldable pub Follows : Setting → Memory → Memory → Stepped → Verdict → Type 0
Follows a before b t (going s) = (t.progress ≡ progress.On) × Represents a b t.machine s
Follows a before b t (over x s) = (t.progress ≡ progress.Ended x) × Represents a b t.machine s
Follows a before b t (denied x) = (t.progress ≡ progress.Refused x) × (b ≡ before)

-- the same by the outcome: what a function of the step promises
pub record Refines (a : Setting) (before : Memory) (o : Outcome) (b : Memory) (t : Stepped) : Type 0 where
  pub follows : Follows a before b t (verdict (lengths a) o)

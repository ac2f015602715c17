-- What memory and machine represent, with one part of it changed: its buffers keep their lengths, and the other parts are as they were.
use Rattle.rules.proofs.Base.{ℕ, ◌∙◌, refl, sym, ◌≡◌, List, arith, length}
use Rattle.rules.specs.declared.Marks.{Marks}
use Rattle.rules.specs.Bytes.{Bytes}
use Rattle.rules.specs.Marks.{mark_texts}
use Rattle.rules.specs.Source.{Source}
use Rattle.rules.specs.Table.{Table}
use Rattle.rules.specs.Streams.{Streams}
use Rattle.rules.specs.State.{Call, State, with_source, with_marks, with_calls, with_table, with_streams, with_wrap, with_errors}
use Rattle.rules.specs.Run.{Setting}
use Rattle.expander.specs.declared.calls.Calls.{Calls}
use Rattle.expander.specs.declared.machine.Machine.{Machine}
use Rattle.expander.specs.declared.sinks.Sinks.{Sinks}
use Rattle.expander.specs.declared.source.Position.{Position}
use Rattle.expander.specs.declared.table.Definitions.{Definitions}
use Rattle.expander.specs.Source.{SourceIn}
use Rattle.expander.specs.Calls.{CallsIn}
use Rattle.expander.specs.Table.{TableIn}
use Rattle.expander.specs.Tokens.{GoodMarks}
use Rattle.expander.specs.Sinks.{SinksIn}
use Rattle.expander.specs.Front.{Front}
use Rattle.expander.specs.Machine.{Memory, memory, Limits, Represents, source_set, marks_set, calls_set, table_set, sinks_set, wrap_set, errors_set}

-- buffers of the same lengths are within the same limits
same_limits :
    {a : Setting} {b c : Memory} → Limits a b → length c.text ≡ length b.text → length c.pending ≡ length b.pending → length c.calls ≡ length b.calls
    → length c.call_ends ≡ length b.call_ends → length c.stack ≡ length b.stack → length c.definitions ≡ length b.definitions
    → length c.table_ends ≡ length b.table_ends → length c.streams ≡ length b.streams → length c.owners ≡ length b.owners
    → length c.wrap ≡ length b.wrap → length c.errors ≡ length b.errors → length c.output ≡ length b.output → Limits a c
same_limits q text pending calls call_ends stack definitions table_ends streams owners wrap errors output =
    record {
      text = omega (arith, text, q.text);
      pending = q.pending ∙ sym pending;
      pending_most = omega (arith, pending, q.pending_most);
      calls = q.calls ∙ sym calls;
      calls_most = omega (arith, calls, q.calls_most);
      definitions = q.definitions ∙ sym definitions;
      definitions_most = omega (arith, definitions, q.definitions_most);
      streams = q.streams ∙ sym streams;
      streams_most = omega (arith, streams, q.streams_most);
      wrap = q.wrap ∙ sym wrap;
      wrap_most = omega (arith, wrap, q.wrap_most);
      errors = q.errors ∙ sym errors;
      errors_most = omega (arith, errors, q.errors_most);
      output = q.output ∙ sym output;
      output_most = omega (arith, output, q.output_most);
      call_ends = call_ends ∙ q.call_ends;
      stack = stack ∙ q.stack;
      table_ends = table_ends ∙ q.table_ends;
      owners = owners ∙ q.owners;
    }

module _
    {a : Setting} {text set pending calls : Bytes} {call_ends stack : List ℕ} {definitions : Bytes} {table_ends : List ℕ} {streams : Bytes} {owners : List ℕ}
    {wrap errors output : Bytes} {m : Machine} {s : State}
    (r : Represents a (memory text set pending calls call_ends stack definitions table_ends streams owners wrap errors output) m s)
  where
    pub with_marks_lem : {x : Marks} → GoodMarks x → Represents a (memory text set pending calls call_ends stack definitions table_ends streams owners wrap errors output) (marks_set x m) (with_marks (mark_texts x) s)
    unfolding with_marks
    with_marks_lem g = record { set = r.set; source = r.source; marks = refl; marks_good = g; calls = r.calls; table = r.table; sinks = r.sinks; wrap = r.wrap; errors = r.errors; limits = r.limits }

    pub with_source_lem :
        {pending' : Bytes} {x : Position} {y : Source} → SourceIn text pending' x y → length pending' ≡ length pending
        → Represents a (memory text set pending' calls call_ends stack definitions table_ends streams owners wrap errors output) (source_set x m) (with_source y s)
    unfolding with_source
    with_source_lem h e-pending =
        record {
          set = r.set;
          source = h;
          marks = r.marks;
          marks_good = r.marks_good;
          calls = r.calls;
          table = r.table;
          sinks = r.sinks;
          wrap = r.wrap;
          errors = r.errors;
          limits = same_limits r.limits refl e-pending refl refl refl refl refl refl refl refl refl refl;
        }

    pub with_calls_lem :
        {calls' : Bytes} {call_ends' : List ℕ} {stack' : List ℕ} {x : Calls} {y : List Call} → CallsIn calls' call_ends' stack' x y → length calls' ≡ length calls → length call_ends' ≡ length call_ends → length stack' ≡ length stack
        → Represents a (memory text set pending calls' call_ends' stack' definitions table_ends streams owners wrap errors output) (calls_set x m) (with_calls y s)
    unfolding with_calls
    with_calls_lem h e-calls e-callEnds e-stack =
        record {
          set = r.set;
          source = r.source;
          marks = r.marks;
          marks_good = r.marks_good;
          calls = h;
          table = r.table;
          sinks = r.sinks;
          wrap = r.wrap;
          errors = r.errors;
          limits = same_limits r.limits refl refl e-calls e-callEnds e-stack refl refl refl refl refl refl refl;
        }

    pub with_table_lem :
        {definitions' : Bytes} {table_ends' : List ℕ} {x : Definitions} {y : Table} → TableIn definitions' table_ends' x.packed x.own y → length definitions' ≡ length definitions → length table_ends' ≡ length table_ends
        → Represents a (memory text set pending calls call_ends stack definitions' table_ends' streams owners wrap errors output) (table_set x m) (with_table y s)
    unfolding with_table
    with_table_lem h e-definitions e-tableEnds =
        record {
          set = r.set;
          source = r.source;
          marks = r.marks;
          marks_good = r.marks_good;
          calls = r.calls;
          table = h;
          sinks = r.sinks;
          wrap = r.wrap;
          errors = r.errors;
          limits = same_limits r.limits refl refl refl refl refl e-definitions e-tableEnds refl refl refl refl refl;
        }

    pub with_sinks :
        {streams' : Bytes} {owners' : List ℕ} {output' : Bytes} {x : Sinks} {y : Streams} → SinksIn streams' owners' output' x y → length streams' ≡ length streams → length owners' ≡ length owners → length output' ≡ length output
        → Represents a (memory text set pending calls call_ends stack definitions table_ends streams' owners' wrap errors output') (sinks_set x m) (with_streams y s)
    unfolding with_streams
    with_sinks h e-streams e-owners e-output =
        record {
          set = r.set;
          source = r.source;
          marks = r.marks;
          marks_good = r.marks_good;
          calls = r.calls;
          table = r.table;
          sinks = h;
          wrap = r.wrap;
          errors = r.errors;
          limits = same_limits r.limits refl refl refl refl refl refl refl e-streams e-owners refl refl e-output;
        }

    pub with_wrap_lem :
        {wrap' : Bytes} {x : ℕ} {y : Bytes} → Front wrap' x y → length wrap' ≡ length wrap
        → Represents a (memory text set pending calls call_ends stack definitions table_ends streams owners wrap' errors output) (wrap_set x m) (with_wrap y s)
    unfolding with_wrap
    with_wrap_lem h e-wrap =
        record {
          set = r.set;
          source = r.source;
          marks = r.marks;
          marks_good = r.marks_good;
          calls = r.calls;
          table = r.table;
          sinks = r.sinks;
          wrap = h;
          errors = r.errors;
          limits = same_limits r.limits refl refl refl refl refl refl refl refl refl e-wrap refl refl;
        }

    pub with_errors_lem :
        {errors' : Bytes} {x : ℕ} {y : Bytes} → Front errors' x y → length errors' ≡ length errors
        → Represents a (memory text set pending calls call_ends stack definitions table_ends streams owners wrap errors' output) (errors_set x m) (with_errors y s)
    unfolding with_errors
    with_errors_lem h e-errors =
        record {
          set = r.set;
          source = r.source;
          marks = r.marks;
          marks_good = r.marks_good;
          calls = r.calls;
          table = r.table;
          sinks = r.sinks;
          wrap = r.wrap;
          errors = h;
          limits = same_limits r.limits refl refl refl refl refl refl refl refl refl refl e-errors refl;
        }

-- What the run leaves, and what its functions ask.
use Rattle.std.specs.Prelude.{◌≡◌, ℕ, ◌+◌, ◌-◌, ◌<◌, ◌≤◌, true, false, List, [], length, replicate, Some}
use Rattle.rules.specs.declared.Answer.{Answer}
use Rattle.rules.specs.declared.Report.{Report}
use Rattle.rules.specs.Bytes.{Bytes}
use Rattle.rules.specs.Sets.{Item, set_items}
use Rattle.rules.specs.Answers.{is_finished}
use Rattle.rules.specs.State.{State}
use Rattle.rules.specs.Run.{Setting, Ended, lengths, run_from}
use Rattle.rules.specs.Contract.{report_of, errors_of, output_of, fronted}
use Rattle.expander.specs.declared.machine.Machine.{Machine}
use Rattle.expander.specs.declared.run.Halted.{Halted}
use Rattle.expander.specs.declared.events.Special.{Special}
use Rattle.expander.specs.declared.plain_steps.Stop.{Stop}
use Rattle.expander.specs.declared.plain_steps.Stop.TheVariants as stop
use Rattle.expander.specs.declared.plain_steps.PlainSteps.{PlainSteps}
use Rattle.expander.specs.Limits.{most_lent, call_ends_length, stack_length, table_ends_length}
use Rattle.expander.specs.Buckets.{Chained}
use Rattle.expander.specs.Events.{SpecialWithin, SpecialIs}
use Rattle.expander.specs.Front.{Front}
use Rattle.expander.specs.Machine.{Memory, Limits, Represents}

-- there are limits, the set is good, and no definition is chained: what the run asks
pub record Roomy (b : Memory) : Type 0 where
  pub setting : Setting
  pub limits : Limits setting b
  pub items : List Item
  pub items_are : set_items b.set ≡ Some items
  pub chained : Chained b.table_ends []

-- what the loop has in hand after `count` steps, of which `left` more may follow: the whole run is the run from here
pub record Running (a : Setting) (b : Memory) (m : Machine) (left count : ℕ) (whole : Ended) : Type 0 where
  pub state : State
  pub represents : Represents a b m state
  pub so_far : whole ≡ run_from (lengths a) left count state

-- how a run ended, in memory: the answer, the completed steps, and the standing state
pub record Leaves (a : Setting) (e : Ended) (b : Memory) (r : Halted) : Type 0 where
  pub answer_is : r.answer ≡ e.answer
  pub steps_are : r.steps ≡ e.steps
  pub represents : Represents a b r.machine e.state

abbrev pub halted : Answer → ℕ → Machine → Halted
halted answer steps m = record { answer = answer; steps = steps; machine = m }

unfoldable pub finished_report : Answer → ℕ → Machine → Report
finished_report answer steps m = record { answer = answer; steps = steps; place = m.source.taken; output = m.sinks.output; errors = m.errors }

unfoldable pub stopped_report : Answer → ℕ → Machine → Report
stopped_report answer steps m = record { answer = answer; steps = steps; place = m.source.taken; output = 0; errors = 0 }

unfoldable pub halted_report : Halted → Report
halted_report h =
    elim (is_finished h.answer) [
      | true ↦ finished_report h.answer h.steps h.machine
      | false ↦ stopped_report h.answer h.steps h.machine
    ]

-- a run's report, and its error text and output at the front of buffers
pub record Ran (e : Ended) (errors output : Bytes) (r : Report) : Type 0 where
  pub report : r ≡ report_of e
  pub errors_are : Front errors r.errors (errors_of e)
  pub output_are : Front output r.output (output_of e)

-- the next step is not plain, and this is what it comes to
pub record SpecialNext (a : Setting) (b : Memory) (whole : Ended) (count : ℕ) (r : PlainSteps) (e : Special) : Type 0 where
  pub running : Running a b r.machine r.left count whole
  pub more : 0 < r.left
  pub within : SpecialWithin b.text b.pending r.machine e
  pub is : SpecialIs running.state e

-- the run ends here, with its budget spent or a step refused; or a special step is next
unfoldable pub Reached : Setting → Memory → Ended → ℕ → PlainSteps → Stop → Type 0
Reached a b whole count r (stop.Stopped x) = Leaves a whole b (halted x count r.machine)
Reached a b whole count r (stop.Special e) = SpecialNext a b whole count r e

-- where plain steps that follow one another lead, in a run that had `budget` steps left after `count`
pub record AfterPlainSteps (a : Setting) (b : Memory) (whole : Ended) (budget count : ℕ) (r : PlainSteps) : Type 0 where
  pub few : r.left ≤ budget
  pub reached : Reached a b whole (count + (budget - r.left)) r r.stop

-- a run's report, and the lent buffers with its error text and output copied out
pub record Wrote (e : Ended) (errors output errors' output' : Bytes) (r : Report) : Type 0 where
  pub report : r ≡ report_of e
  pub errors_are : errors' ≡ fronted (errors_of e) errors
  pub output_are : output' ≡ fronted (output_of e) output

-- no length is above 65,536
pub record Lent (text pending calls definitions streams wrap errors output : ℕ) : Type 0 where
  pub text_in : text ≤ most_lent
  pub pending_in : pending ≤ most_lent
  pub calls_in : calls ≤ most_lent
  pub definitions_in : definitions ≤ most_lent
  pub streams_in : streams ≤ most_lent
  pub wrap_in : wrap ≤ most_lent
  pub errors_in : errors ≤ most_lent
  pub output_in : output ≤ most_lent

-- how long the links are
pub record LinkLengths (ends stack table_ends owners : List ℕ) : Type 0 where
  pub ends_are : length ends ≡ call_ends_length
  pub stack_are : length stack ≡ stack_length
  pub table_ends_are : length table_ends ≡ table_ends_length
  pub owners_are : length owners ≡ most_lent

-- a buffer that is all zero
pub record Zeroed (before after : Bytes) : Type 0 where
  pub is : after ≡ replicate (length before) 0

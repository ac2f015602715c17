-- What a call of the expander promises: the numbers of its answer and every byte of the seven buffers.
use Rattle.std.specs.Prelude.{ℕ, ◌≤◌, ◌≡◌, true, false, List, [], ◌∷◌, ◌++◌, eqb, length, take, drop, replicate}
use Rattle.rules.specs.declared.Report.{Report}
use Rattle.rules.specs.Bytes.{Bytes}
use Rattle.rules.specs.Answers.{answer_number, is_finished, is_stopped, numbers}
use Rattle.rules.specs.State.{fresh_start}
use Rattle.rules.specs.Run.{Setting, Ended, run}
use Rattle.rules.specs.Room.{stopped_by}

-- what the seven buffers hold, 1 to 7
pub record Buffers : Type 0 where
  pub pending : Bytes
  pub calls : Bytes
  pub definitions : Bytes
  pub streams : Bytes
  pub wrap : Bytes
  pub errors : Bytes
  pub output : Bytes

unfoldable pub setting_of : Buffers → ℕ → Setting
setting_of b budget =
    record {
      pending = length b.pending;
      calls = length b.calls;
      definitions = length b.definitions;
      streams = length b.streams;
      wrap = length b.wrap;
      errors = length b.errors;
      output = length b.output;
      budget = budget;
    }

-- what a run writes: its output and error text where it ended in 0 or 1, else nothing
unfoldable pub output_of : Ended → Bytes
output_of e = elim (is_finished e.answer) [ true ↦ e.state.streams.output | false ↦ [] ]

unfoldable pub errors_of : Ended → Bytes
errors_of e = elim (is_finished e.answer) [ true ↦ e.state.errors | false ↦ [] ]

-- 01 "Every answer returns number, detail, completed steps and place", and the two counts
unfoldable pub report_of : Ended → Report
report_of e =
    record { answer = e.answer; steps = e.steps; place = e.state.source.taken; output = length (output_of e); errors = length (errors_of e) }

-- 01 "hold that text from the front and their old bytes behind it"
unfoldable pub fronted : Bytes → Bytes → Bytes
fronted w old = w ++ drop (length w) old

-- 01 "Buffers 1 to 5 are all zero afterwards, except with 2, which writes nothing"
unfoldable pub zeroed_by : Ended → Bytes → Bytes
zeroed_by e old = elim (eqb (answer_number e.answer) 2) [ true ↦ old | false ↦ replicate (length old) 0 ]

unfoldable pub left_by : Ended → Buffers → Buffers
left_by e b =
    record {
      pending = zeroed_by e b.pending;
      calls = zeroed_by e b.calls;
      definitions = zeroed_by e b.definitions;
      streams = zeroed_by e b.streams;
      wrap = zeroed_by e b.wrap;
      errors = fronted (errors_of e) b.errors;
      output = fronted (output_of e) b.output;
    }

-- the run of a text with a set in lent buffers
unfoldable pub run_in : Bytes → Bytes → Buffers → ℕ → Ended
run_in text set b budget = run (fresh_start text set) (setting_of b budget)

-- a call of the expander on a text, with a set: r is its report, `after` what the buffers then hold
pub record Expanded (text set : Bytes) (budget : ℕ) (before after : Buffers) (r : Report) : Type 0 where
  pub report : r ≡ report_of (run_in text set before budget)
  pub buffers : after ≡ left_by (run_in text set before budget) before

-- 01 "The written bytes are the first bytes of the output and of the error buffer, as many of each as its count says"
unfoldable pub written : Report → Buffers → List Bytes
written r b = take r.output b.output ∷ take r.errors b.errors ∷ []

-- the letter's third demand, of two calls on one text with one set: r and x are the report and the buffers after the first, under the setting a;
-- t and y after the second, under b, nowhere smaller
pub record Agree (a b : Setting) (r t : Report) (x y : Buffers) : Type 0 where
  pub same : is_stopped r.answer ≡ false → (numbers t ≡ numbers r) × (written t y ≡ written r x)
  pub further : is_stopped r.answer ≡ true → r.steps ≤ t.steps
  pub again : is_stopped r.answer ≡ true → stopped_by a r.answer ≡ stopped_by b r.answer → numbers t ≡ numbers r

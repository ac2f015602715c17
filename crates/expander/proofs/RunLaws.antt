-- The run loop: one law for its start, one for each way out and one for a turn; and what a call makes of the run.
use Rattle.rules.proofs.Base.{◌≤◌, ◌+◌, ℕ, ◌-◌, ◌<◌, suc, zero, ◌∙◌, refl, sym, ap, ◌≡◌, subst, true, Bool, false, Some, List, [], ◌∷◌, arith, pos, length, drop_of_length-le, le-leb, lt-leb}
use Rattle.std.proofs.Common.{Fits-le, w32, Fits}
use Rattle.rules.specs.declared.Answer.{Answer}
use Rattle.rules.specs.declared.Answer.TheVariants as answer
use Rattle.rules.specs.declared.Report.{Report}
use Rattle.rules.specs.Bytes.{Bytes}
use Rattle.rules.specs.Answers.{is_finished, answer_number}
use Rattle.rules.specs.State.{State, fresh_start, start_state}
use Rattle.rules.specs.Sets.{Item, set_items}
use Rattle.rules.specs.Step.{step}
use Rattle.rules.specs.Run.{Setting, lengths, Ended, ended_with, run_from, all_lendable}
use Rattle.rules.specs.declared.Marks.{Marks}
use Rattle.rules.specs.Marks.{mark_texts, default_marks}
use Rattle.rules.specs.Source.{source_of}
use Rattle.rules.specs.Streams.{empty_streams, joined}
use Rattle.expander.specs.Calls.{open_strings, Stacked}
use Rattle.expander.specs.Packed.{ends_from}
use Rattle.expander.specs.Tokens.{GoodMarks}
use Rattle.rules.specs.Contract.{report_of, errors_of, output_of}
use Rattle.expander.specs.declared.machine.Machine.{Machine}
use Rattle.expander.specs.declared.machine.Stepped.{Stepped}
use Rattle.expander.specs.declared.machine.Progress.{Progress}
use Rattle.expander.specs.declared.machine.Progress.TheVariants as progress
use Rattle.expander.specs.declared.run.Halted.{Halted}
use Rattle.expander.specs.declared.events.Special.{Special}
use Rattle.expander.specs.declared.plain_steps.Stop.TheVariants as stop
use Rattle.expander.specs.declared.plain_steps.PlainSteps.{PlainSteps}
use Rattle.expander.specs.Front.{Front}
use Rattle.expander.specs.Limits.{all_own, most_lent}
use Rattle.expander.specs.Buckets.{Chained}
use Rattle.expander.specs.Machine.{Memory, Limits, Represents, Valid, Follows, Refines}
use Rattle.expander.specs.Verdict.{Verdict, going, over, denied, verdict, followed}
use Rattle.expander.specs.Run.{Running, Leaves, halted, finished_report, stopped_report, halted_report, Ran, SpecialNext, Reached, AfterPlainSteps}
use Rattle.expander.proofs.MachineLaws.{front_long}
use Rattle.expander.proofs.Rows.{fresh_in}
use Rattle.expander.proofs.Waiting.{none_held}
use Rattle.expander.proofs.VerdictLaws.{run_follows}

-- ---- a verdict by what the step gave

unfoldable pub progress_kind : Progress → ℕ
progress_kind progress.On = 0
progress_kind (progress.Ended x) = 1
progress_kind (progress.Refused x) = 2

unfoldable pub progress_answer : Progress → Answer
progress_answer progress.On = answer.Done
progress_answer (progress.Ended x) = x
progress_answer (progress.Refused x) = x

kinds : {u v : Progress} → u ≡ v → progress_kind u ≡ progress_kind v
kinds e = ap progress_kind e

pub record Ends (a : Setting) (v : Verdict) (b : Memory) (m : Machine) (x : Answer) : Type 0 where
  pub state : State
  pub is : v ≡ over x state
  pub represents : Represents a b m state

pub record Goes (a : Setting) (v : Verdict) (b : Memory) (m : Machine) : Type 0 where
  pub state : State
  pub is : v ≡ going state
  pub represents : Represents a b m state

-- a refusal, with nothing written
pub record Refuses (v : Verdict) (before b : Memory) (x : Answer) : Type 0 where
  pub is : v ≡ denied x
  pub kept : b ≡ before

module _ (a : Setting) (before b : Memory) (t : Stepped) where
  is_denied : (v : Verdict) (x : Answer) → Follows a before b t v → t.progress ≡ progress.Refused x → Refuses v before b x
  unfolding Follows progress_kind progress_answer
  is_denied (going s) x h e = absurd (let k : 2 ≡ 0 = kinds (sym e ∙ h.0) in omega arith)
  is_denied (over y s) x h e = absurd (let k : 2 ≡ 1 = kinds (sym e ∙ h.0) in omega arith)
  is_denied (denied y) x h e = record { is = ap denied (ap progress_answer (sym h.0 ∙ e)); kept = h.1 }

  is_over : (v : Verdict) (x : Answer) → Follows a before b t v → t.progress ≡ progress.Ended x → Ends a v b t.machine x
  unfolding Follows progress_kind progress_answer
  is_over (going s) x h e = absurd (let k : 1 ≡ 0 = kinds (sym e ∙ h.0) in omega arith)
  is_over (over y s) x h e = record { state = s; is = ap (λ (z : Answer). over z s) (ap progress_answer (sym h.0 ∙ e)); represents = h.1 }
  is_over (denied y) x h e = absurd (let k : 1 ≡ 2 = kinds (sym e ∙ h.0) in omega arith)

  is_going : (v : Verdict) → Follows a before b t v → t.progress ≡ progress.On → Goes a v b t.machine
  unfolding Follows progress_kind
  is_going (going s) h e = record { state = s; is = refl; represents = h.1 }
  is_going (over y s) h e = absurd (let k : 0 ≡ 1 = kinds (sym e ∙ h.0) in omega arith)
  is_going (denied y) h e = absurd (let k : 0 ≡ 2 = kinds (sym e ∙ h.0) in omega arith)

-- ---- what may be lent

pub lend_stops : (l : ℕ) (ls : List ℕ) → most_lent < l → false ≡ all_lendable (l ∷ ls)
unfolding all_lendable
lend_stops l ls h = rw (lt-leb l most_lent h, all_lendable)

pub lend_goes : (l : ℕ) (ls : List ℕ) (r : Bool) → l ≤ most_lent → r ≡ all_lendable ls → r ≡ all_lendable (l ∷ ls)
unfolding all_lendable
lend_goes l ls r h e = rw (le-leb l most_lent h, all_lendable) e

pub lend_all : true ≡ all_lendable []
unfolding all_lendable
lend_all = refl

-- ---- the start

nothing_front : (buffer : Bytes) → Front buffer 0 []
nothing_front buffer = record { text_is = refl; inside = omega arith }

pub started :
    (a : Setting) (b : Memory) (is : List Item) (marks : Marks) (from : ℕ) → mark_texts marks ≡ default_marks → GoodMarks marks → Limits a b → Chained b.table_ends [] → set_items b.set ≡ Some is → length b.pending ≡ from
    → Represents a b (record {
      marks = marks;
      source = record { from = from; taken = 0 };
      calls = record { strings = record { count = 0; used = 0 }; opens = 0 };
      table = record { packed = record { count = 0; used = 0 }; own = all_own };
      sinks = record { current = pos 0; waiting = 0; output = 0 };
      wrap = 0;
      errors = 0;
    }) (start_state is (fresh_start b.text b.set))
unfolding start_state fresh_start source_of empty_streams open_strings ends_from joined Stacked
started a b is marks from e g l k i q =
    let h : length b.pending ≤ from = omega arith in
    record {
      set = i;
      source =
          record {
            from_in = omega arith;
            taken_in = omega arith;
            pending_is = sym (drop_of_length-le b.pending h);
            rest_is = refl;
            taken_is = refl;
          };
      marks = sym e;
      marks_good = g;
      calls =
          record {
            strings = record { ends_are = refl; bytes_are = refl; count_in = omega arith; used_in = omega arith };
            open_is = refl;
            stacked = tt;
            open_few = omega arith;
            args_few = omega arith;
          };
      table = fresh_in b.definitions b.table_ends l.definitions_most l.table_ends k;
      sinks = record { waiting = none_held b.streams b.owners; written = nothing_front b.output; current = refl };
      wrap = nothing_front b.wrap;
      errors = nothing_front b.errors;
      limits = l;
    }

-- ---- the loop

pub begun :
    {a : Setting} {b : Memory} {m : Machine} {s : State} (budget : ℕ) → Represents a b m s → Running a b m budget 0 (run_from (lengths a) budget 0 s)
begun budget m = record { state = _; represents = m; so_far = refl }

one_more :
    (a : Setting) (left count : ℕ) (s : State) → 0 < left
    → run_from (lengths a) left count s ≡ followed (lengths a) (left - 1) count s (verdict (lengths a) (step s))
one_more a zero count s h = absurd (omega arith)
one_more a (suc n) count s h =
    let e : suc n - 1 ≡ n = omega arith in
    rw e (run_follows (lengths a) n count s)

-- it ends with an answer, where memory and machine represent the last state
leaves : {a : Setting} {b : Memory} {m : Machine} {w : Ended} {s : State} (x : Answer) (count : ℕ) → w ≡ ended_with x count s → Represents a b m s → Leaves a w b (halted x count m)
unfolding ended_with
leaves {a} {b} {m} x count e h =
    record { answer_is = ap (λ (k : Ended). k.answer) (sym e); steps_are = ap (λ (k : Ended). k.steps) (sym e); represents = rw e h }

module _ {a : Setting} {b : Memory} {m : Machine} {left count : ℕ} {w : Ended} (u : Running a b m left count w) where
  pub run_spent : left ≡ 0 → Leaves a w b (halted answer.Spent count m)
  unfolding run_from
  run_spent e =
      leaves answer.Spent count (u.so_far ∙ ap (λ (n : ℕ). run_from (lengths a) n count u.state) e) u.represents

  module _ {b' : Memory} {t : Stepped} (more : 0 < left) (g : Refines a b (step u.state) b' t) where
    so : w ≡ followed (lengths a) (left - 1) count u.state (verdict (lengths a) (step u.state))
    so = u.so_far ∙ one_more a left count u.state more

    pub run_refused : (x : Answer) → t.progress ≡ progress.Refused x → Leaves a w b' (halted x count m)
    unfolding followed
    run_refused x e =
        let d = is_denied a b b' t _ x g.follows e in
        leaves x count (so ∙ ap (followed (lengths a) (left - 1) count u.state) d.is) (rw d.kept u.represents)

    pub run_ended : (x : Answer) → t.progress ≡ progress.Ended x → Leaves a w b' (halted x (count + 1) t.machine)
    unfolding followed
    run_ended x e =
        let v = is_over a b b' t _ x g.follows e in
        let k : suc count ≡ count + 1 = omega arith in
        leaves x (count + 1)
        (so ∙ ap (followed (lengths a) (left - 1) count u.state) v.is ∙ ap (λ (n : ℕ). ended_with x n v.state) k) v.represents

    pub run_on : t.progress ≡ progress.On → Running a b' t.machine (left - 1) (count + 1) w
    unfolding followed
    run_on e =
        let v = is_going a b b' t _ g.follows e in
        let k : suc count ≡ count + 1 = omega arith in
        record {
          state = v.state;
          represents = v.represents;
          so_far =
              so
              ∙ ap (followed (lengths a) (left - 1) count u.state) v.is
              ∙ ap (λ (n : ℕ). run_from (lengths a) (left - 1) n v.state) k;
        }

-- ---- plain steps, as many as follow one another

-- a run can be looked at from any state
pub from_here : {a : Setting} {b : Memory} {m : Machine} {s : State} (left count : ℕ) → Represents a b m s → Running a b m left count (run_from (lengths a) left count s)
from_here left count h = record { state = _; represents = h; so_far = refl }

module _ {a : Setting} {b : Memory} {m : Machine} {left count : ℕ} {w : Ended} (u : Running a b m left count w) where
  -- as many steps as were left before, less those left now
  pub recount : (n : ℕ) → count ≡ n → Running a b m left n w
  recount n e = subst (λ (k : ℕ). Running a b m left k w) e u

-- what a function asks holds of a run's state
pub running_valid : {a : Setting} {m : Machine} {left count : ℕ} {w : Ended} {part : Memory → Memory} (b : Memory) → Running a b m left count w → part b ≡ b → Valid part m
running_valid {a} {m} b u e =
    record { others = b; setting = a; state = u.state; represents = subst (λ (k : Memory). Represents a k m u.state) (sym e) u.represents }

-- an end by another way to say its count
pub leaves_recount : {a : Setting} {w : Ended} {b : Memory} {x : Answer} {m : Machine} {count n : ℕ} → count ≡ n → Leaves a w b (halted x count m) → Leaves a w b (halted x n m)
leaves_recount {a} {w} {b} {x} {m} e h = subst (λ (k : ℕ). Leaves a w b (halted x k m)) e h

-- what they came to, by why they ended
module _ {a : Setting} {b : Memory} {w : Ended} {budget count : ℕ} {r : PlainSteps} (h : AfterPlainSteps a b w budget count r) where
  pub reached_stop : {x : Answer} → r.stop ≡ stop.Stopped x → Leaves a w b (halted x (count + (budget - r.left)) r.machine)
  unfolding Reached
  reached_stop e = subst (Reached a b w (count + (budget - r.left)) r) e h.reached

  pub reached_special : {e : Special} → r.stop ≡ stop.Special e → SpecialNext a b w (count + (budget - r.left)) r e
  unfolding Reached
  reached_special e = subst (Reached a b w (count + (budget - r.left)) r) e h.reached

-- ---- steps counted: `budget` in all, `before` left at the head of the loop, `left` after the plain steps

pub counted : {budget before left : ℕ} → left ≤ before → before ≤ budget → (budget - before) + (before - left) ≡ budget - left
counted f h = omega arith

pub counted_one : {budget before left : ℕ} → left ≤ before → before ≤ budget → 0 < left → (budget - before) + (before - left) + 1 ≡ budget - (left - 1)
counted_one f h more = omega arith

pub counted_on : (count : ℕ) {budget left : ℕ} → left ≤ budget → 0 < left → count + (budget - left) + 1 ≡ count + (budget - (left - 1))
counted_on count f more = omega arith

pub one_less : {before left : ℕ} → left ≤ before → 0 < left → left - 1 < before
one_less f more = omega arith

pub step_fits : {budget left : ℕ} → 0 < left → left ≤ budget → Fits w32 budget → Fits w32 (budget - left + 1)
step_fits more f h = Fits-le (omega arith) h

pub none_left : {left : ℕ} → left ≤ 0 → left ≡ 0
none_left h = omega arith

pub all_counted : (budget : ℕ) {left : ℕ} → left ≤ 0 → budget - left ≡ budget
all_counted budget h = omega arith

-- ---- the report of a run, and what it wrote

front_whole : {buffer : Bytes} {n : ℕ} {w : Bytes} → Front buffer n w → Front buffer (length w) w
front_whole {buffer} {n} {w} f = subst (λ (k : ℕ). Front buffer k w) (sym (front_long f)) f

-- nothing on a refusal, else its output and error text
writes_nothing : (e : Ended) → is_finished e.answer ≡ false → (output_of e ≡ []) × (errors_of e ≡ [])
unfolding output_of errors_of
writes_nothing e h = (rw (h, output_of), rw (h, errors_of))

writes_all : (e : Ended) → is_finished e.answer ≡ true → (output_of e ≡ e.state.streams.output) × (errors_of e ≡ e.state.errors)
unfolding output_of errors_of
writes_all e h = (rw (h, output_of), rw (h, errors_of))

reported :
    (e : Ended) (p o r : ℕ) → e.state.source.taken ≡ p → length (output_of e) ≡ o → length (errors_of e) ≡ r
    → record { answer = e.answer; steps = e.steps; place = p; output = o; errors = r } ≡ report_of e
unfolding report_of
reported e p o r ep eo er = rw (sym ep, sym eo, sym er) refl

-- by the number of its answer
module _ (h : Halted) {n : ℕ} (i : n ≡ answer_number h.answer) where
  pub halted_finished : n ≤ 1 → finished_report h.answer h.steps h.machine ≡ halted_report h
  unfolding halted_report is_finished
  halted_finished f = rw (le-leb (answer_number h.answer) 1 (omega (arith, f, i)), halted_report)

  pub halted_stopped : 1 < n → stopped_report h.answer h.steps h.machine ≡ halted_report h
  unfolding halted_report is_finished
  halted_stopped f = rw (lt-leb (answer_number h.answer) 1 (omega (arith, f, i)), halted_report)

module _ {a : Setting} {e : Ended} {b : Memory} {h : Halted} (l : Leaves a e b h) where
  pub leaves_few : (h.machine.source.taken ≤ most_lent) × (h.machine.sinks.output ≤ most_lent) × (h.machine.errors ≤ most_lent)
  leaves_few =
      let m = l.represents in
      (omega (arith, m.source.taken_in, m.limits.text), omega (arith, m.sinks.written.inside, m.limits.output_most), omega (arith, m.errors.inside, m.limits.errors_most))

  report_by : (f : Bool) → is_finished e.answer ≡ f → halted_report h ≡ report_of e
  unfolding halted_report finished_report stopped_report
  report_by true k =
      let w = writes_all e k in
      let m = l.represents in
      rw (ap is_finished l.answer_is ∙ k, halted_report, l.answer_is, l.steps_are)
      (reported e h.machine.source.taken h.machine.sinks.output h.machine.errors m.source.taken_is (ap length w.0 ∙ front_long m.sinks.written)
      (ap length w.1 ∙ front_long m.errors))
  report_by false k =
      let w = writes_nothing e k in
      rw (ap is_finished l.answer_is ∙ k, halted_report, l.answer_is, l.steps_are)
      (reported e h.machine.source.taken 0 0 l.represents.source.taken_is (ap length w.0) (ap length w.1))

  fronts_by : (f : Bool) → is_finished e.answer ≡ f → Front b.errors (length (errors_of e)) (errors_of e) × Front b.output (length (output_of e)) (output_of e)
  unfolding output_of errors_of
  fronts_by true k = rw (k, output_of, errors_of) (front_whole l.represents.errors, front_whole l.represents.sinks.written)
  fronts_by false k = rw (k, output_of, errors_of) (nothing_front b.errors, nothing_front b.output)

  pub leaves_report : halted_report h ≡ report_of e
  leaves_report = report_by (is_finished e.answer) refl

  pub leaves_ran : {r : Report} → r ≡ halted_report h → Ran e b.errors b.output r
  unfolding report_of
  leaves_ran k =
      let f = fronts_by (is_finished e.answer) refl in
      let i = k ∙ leaves_report in
      record { report = i; errors_are = rw i f.0; output_are = rw i f.1 }

-- What a call of the expander makes of the run: what is lent, what is copied out, and what the five working buffers hold then.
use Rattle.expander.specs.Limits.{most_lent}
use Rattle.rules.proofs.Base.{◌≤◌, ℕ, suc, zero, ◌∙◌, refl, sym, ap, ◌≡◌, true, Bool, false, true≢false, Some, None, Option, List, [], ◌++◌, ◌∷◌, arith, eqb, leb, length, drop, take, length-append, length-drop, replicate, length-take-le, take-append-le, ne_eqb, leb-true}
use Rattle.std.specs.Option.{is_some}
use Rattle.rules.specs.declared.Answer.TheVariants as answer
use Rattle.rules.specs.declared.Report.{Report}
use Rattle.rules.specs.Bytes.{Bytes}
use Rattle.rules.specs.Answers.{answer_number, is_finished, Ending, done, exit, ending_answer, fault_answer}
use Rattle.rules.specs.Sets.{Item, set_items}
use Rattle.rules.specs.Source.{source_of}
use Rattle.rules.specs.State.{State, Outcome, next, stop, refused, Start, fresh_start, start_state}
use Rattle.rules.specs.Step.{step}
use Rattle.rules.specs.Run.{Setting, Ended, ended_with, held, overfull, judged, continued, lengths, run_from, all_lendable, started}
use Rattle.rules.specs.Contract.{Buffers, setting_of, report_of, errors_of, output_of, fronted, zeroed_by, left_by, run_in, Expanded}
use Rattle.rules.proofs.Run.{run_lend, run_starts, fault_number}
use Rattle.expander.specs.Front.{Front}
use Rattle.expander.specs.Machine.{memory, Limits}
use Rattle.expander.specs.Run.{Ran, Wrote, Lent, LinkLengths, Zeroed}

-- ---- what is lent

-- none of the eight lengths is above 65,536
lend_head : (l : ℕ) (ls : List ℕ) → true ≡ all_lendable (l ∷ ls) → (l ≤ most_lent) × (true ≡ all_lendable ls)
unfolding all_lendable
lend_head l ls e = go (leb l most_lent) refl e
  where
    go : (b : Bool) → leb l most_lent ≡ b → true ≡ elim b [ true ↦ all_lendable ls | false ↦ false ] → (l ≤ most_lent) × (true ≡ all_lendable ls)
    go true h q = (leb-true l most_lent h, q)
    go false h q = absurd (true≢false q)

pub all_lent : (t p c d s w e o : ℕ) → true ≡ all_lendable (t ∷ p ∷ c ∷ d ∷ s ∷ w ∷ e ∷ o ∷ []) → Lent t p c d s w e o
all_lent t p c d s w e o q =
    let a = lend_head t (p ∷ c ∷ d ∷ s ∷ w ∷ e ∷ o ∷ []) q in
    let b = lend_head p (c ∷ d ∷ s ∷ w ∷ e ∷ o ∷ []) a.1 in
    let f = lend_head c (d ∷ s ∷ w ∷ e ∷ o ∷ []) b.1 in
    let g = lend_head d (s ∷ w ∷ e ∷ o ∷ []) f.1 in
    let h = lend_head s (w ∷ e ∷ o ∷ []) g.1 in
    let i = lend_head w (e ∷ o ∷ []) h.1 in
    let j = lend_head e (o ∷ []) i.1 in
    let k = lend_head o [] j.1 in
    record { text_in = a.0; pending_in = b.0; calls_in = f.0; definitions_in = g.0; streams_in = h.0; wrap_in = i.0; errors_in = j.0; output_in = k.0 }

-- the lent lengths, for a run that gets as much of its own texts as is lent
pub lent_limits :
    (text set pending calls definitions streams wrap errors output error_text output_text : Bytes) (ends stack table_ends owners : List ℕ) (budget : ℕ)
    → Lent (length text) (length pending) (length calls) (length definitions) (length streams) (length wrap) (length errors) (length output)
    → LinkLengths ends stack table_ends owners → length error_text ≡ most_lent → length output_text ≡ most_lent
    → Limits (setting_of (record { pending = pending; calls = calls; definitions = definitions; streams = streams; wrap = wrap; errors = errors; output = output }) budget)
    (memory text set pending calls ends stack definitions table_ends streams owners wrap (take (length errors) error_text) (take (length output) output_text))
unfolding setting_of
lent_limits text set pending calls definitions streams wrap errors output error_text output_text ends stack table_ends owners budget l k e o =
    let p = length-take-le (length errors) error_text (omega (arith, l.errors_in)) in
    let q = length-take-le (length output) output_text (omega (arith, l.output_in)) in
    record {
      text = l.text_in;
      pending = refl;
      pending_most = l.pending_in;
      calls = refl;
      calls_most = l.calls_in;
      definitions = refl;
      definitions_most = l.definitions_in;
      streams = refl;
      streams_most = l.streams_in;
      wrap = refl;
      wrap_most = l.wrap_in;
      errors = sym p;
      errors_most = omega (arith, p, l.errors_in);
      output = sym q;
      output_most = omega (arith, q, l.output_in);
      call_ends = k.ends_are;
      stack = k.stack_are;
      table_ends = k.table_ends_are;
      owners = k.owners_are;
    }

-- ---- what is copied out

pub part_size : (n : ℕ) (buffer : Bytes) → n ≤ length buffer → n ≡ length (take n buffer)
part_size n buffer h = sym (length-take-le n buffer h)

-- a text at the front of a buffer is at the front of a longer one
front_longer : {buffer : Bytes} {n : ℕ} {w : Bytes} (more : Bytes) → Front buffer n w → Front (buffer ++ more) n w
front_longer {buffer} {n} more f =
    record { text_is = take-append-le n buffer more f.inside ∙ f.text_is; inside = omega (arith, length-append buffer more, f.inside) }

-- what the run wrote, in longer buffers, is as short as its own
module _ {e : Ended} {errors output : Bytes} {r : Report} (x : Ran e errors output r) (more_errors more_output : Bytes) where
  pub ran_longer : Ran e (errors ++ more_errors) (output ++ more_output) r
  ran_longer = record { report = x.report; errors_are = front_longer more_errors x.errors_are; output_are = front_longer more_output x.output_are }

  pub output_few : (k : ℕ) → length output ≡ k → length (take r.output (output ++ more_output)) ≤ k
  output_few k q = omega (arith, length-take-le r.output (output ++ more_output) ran_longer.output_are.inside, x.output_are.inside)

  pub errors_few : (k : ℕ) → length errors ≡ k → length (take r.errors (errors ++ more_errors)) ≤ k
  errors_few k q = omega (arith, length-take-le r.errors (errors ++ more_errors) ran_longer.errors_are.inside, x.errors_are.inside)

-- all zero, for a buffer that kept its length
pub zeros : {before after : Bytes} (k : ℕ) → Zeroed before after → length before ≡ k → after ≡ replicate k 0
zeros k z q = z.is ∙ ap (λ (i : ℕ). replicate i 0) q

pub wrote :
    {e : Ended} {error_text output_text errors output errors' output' : Bytes} {r : Report} → Ran e error_text output_text r
    → errors' ≡ fronted (take r.errors error_text) errors → output' ≡ fronted (take r.output output_text) output → Wrote e errors output errors' output' r
wrote {errors} {output} x p q =
    record {
      report = x.report;
      errors_are = p ∙ ap (λ (w : Bytes). fronted w errors) x.errors_are.text_is;
      output_are = q ∙ ap (λ (w : Bytes). fronted w output) x.output_are.text_is;
    }

-- ---- the set

-- the items of a good set
pub record Items (set : Bytes) : Type 0 where
  pub items : List Item
  pub are : set_items set ≡ Some items

module _ (set : Bytes) where
  pub good_items : true ≡ is_some (set_items set) → Items set
  good_items e = go (set_items set) refl e
    where
      go : (o : Option (List Item)) → set_items set ≡ o → true ≡ is_some o → Items set
      go None q h = absurd (true≢false h)
      go (Some is) q h = record { items = is; are = q }

  bad_items : false ≡ is_some (set_items set) → set_items set ≡ None
  bad_items e = go (set_items set) refl e
    where
      go : (o : Option (List Item)) → set_items set ≡ o → false ≡ is_some o → set_items set ≡ None
      go None q h = q
      go (Some is) q h = absurd (true≢false (sym h))

  module _ (x : Start) (a : Setting) {errors output : Bytes} {r : Report} where
    -- it is not good: nothing is written
    pub wrote_nothing : false ≡ is_some (set_items set) → r ≡ record { answer = answer.BadSet; steps = 0; place = 0; output = 0; errors = 0 }
        → Wrote (started (set_items set) x a) errors output errors output r
    unfolding started ended_with report_of output_of errors_of is_finished answer_number start_state source_of fronted
    wrote_nothing e f = rw (bad_items e) (record { report = f; errors_are = refl; output_are = refl })

    -- it is good: the run is what follows
    pub wrote_started : {errors' output' : Bytes} (i : Items set) → Wrote (run_from (lengths a) a.budget 0 (start_state i.items x)) errors output errors' output' r
        → Wrote (started (set_items set) x a) errors output errors' output' r
    unfolding started
    wrote_started i w = rw i.are w

-- ---- the whole call

-- a run that was admitted does not end with "lend"
abbrev NotLend : Ended → Type 0
NotLend e = eqb (answer_number e.answer) 2 ≡ false

ending_not_lend : (x : Ending) → eqb (answer_number (ending_answer x)) 2 ≡ false
unfolding answer_number ending_answer
ending_not_lend done = refl
ending_not_lend (exit code) = refl

run_not_lend : (ls : List ℕ) (n k : ℕ) (s : State) → NotLend (run_from ls n k s)
unfolding run_from continued judged ended_with answer_number
run_not_lend ls zero k s = refl
run_not_lend ls (suc n) k s = goes (λ t. run_not_lend ls n (suc k) t) (step s)
  where
    judges : (go : State → Ended) (t : State) (o : Option ℕ) → NotLend (go t) → NotLend (judged go k s t o)
    judges go t None h = h
    judges go t (Some b) h = refl

    goes : ((t : State) → NotLend (run_from ls n (suc k) t)) → (o : Outcome) → NotLend (continued ls (λ t. run_from ls n (suc k) t) k s o)
    goes more (next t) = judges (λ x. run_from ls n (suc k) x) t (overfull (held t) ls) (more t)
    goes more (stop e t) = judges (ended_with (ending_answer e) (suc k)) t (overfull (held t) ls) (ending_not_lend e)
    goes more (refused f) = ne_eqb (answer_number (fault_answer f)) 2 (λ e. omega (arith, fault_number f))

zeroed_by_lem : (e : Ended) (old new : Bytes) → NotLend e → new ≡ replicate (length old) 0 → new ≡ zeroed_by e old
unfolding zeroed_by
zeroed_by_lem e old new h q = rw (h, zeroed_by) q

-- the buffers after a call, of what each holds
left_are :
    (e : Ended) (b a : Buffers) → a.pending ≡ zeroed_by e b.pending → a.calls ≡ zeroed_by e b.calls → a.definitions ≡ zeroed_by e b.definitions
    → a.streams ≡ zeroed_by e b.streams → a.wrap ≡ zeroed_by e b.wrap → a.errors ≡ fronted (errors_of e) b.errors
    → a.output ≡ fronted (output_of e) b.output → a ≡ left_by e b
unfolding left_by
left_are e b a p c d s w r o = rw (sym p, sym c, sym d, sym s, sym w, sym r, sym o) refl

started_not_lend : (o : Option (List Item)) (x : Start) (a : Setting) → NotLend (started o x a)
unfolding started ended_with answer_number
started_not_lend None x a = refl
started_not_lend (Some is) x a = run_not_lend (lengths a) a.budget 0 (start_state is x)

module _ (text set : Bytes) (budget : ℕ) (b : Buffers) where
  ran_in : true ≡ all_lendable (length text ∷ lengths (setting_of b budget)) → run_in text set b budget ≡ started (set_items set) (fresh_start text set) (setting_of b budget)
  unfolding run_in fresh_start
  ran_in e = run_starts (fresh_start text set) (setting_of b budget) (sym e)

  pub expanded :
      {a : Buffers} {r : Report} → true ≡ all_lendable (length text ∷ lengths (setting_of b budget))
      → Wrote (started (set_items set) (fresh_start text set) (setting_of b budget)) b.errors b.output a.errors a.output r
      → a.pending ≡ replicate (length b.pending) 0 → a.calls ≡ replicate (length b.calls) 0 → a.definitions ≡ replicate (length b.definitions) 0
      → a.streams ≡ replicate (length b.streams) 0 → a.wrap ≡ replicate (length b.wrap) 0 → Expanded text set budget b a r
  expanded {a} {r} l x p c d s w =
      let e = started (set_items set) (fresh_start text set) (setting_of b budget) in
      let n = started_not_lend (set_items set) (fresh_start text set) (setting_of b budget) in
      let q : run_in text set b budget ≡ e = ran_in l in
      record {
        report = x.report ∙ ap report_of (sym q);
        buffers =
            left_are e b a (zeroed_by_lem e b.pending a.pending n p) (zeroed_by_lem e b.calls a.calls n c)
            (zeroed_by_lem e b.definitions a.definitions n d) (zeroed_by_lem e b.streams a.streams n s) (zeroed_by_lem e b.wrap a.wrap n w)
            x.errors_are x.output_are
            ∙ ap (λ (y : Ended). left_by y b) (sym q);
      }

  -- something is above 65,536 bytes: nothing is written
  pub not_lent :
      {r : Report} → r ≡ record { answer = answer.Lend; steps = 0; place = 0; output = 0; errors = 0 }
      → false ≡ all_lendable (length text ∷ lengths (setting_of b budget)) → Expanded text set budget b b r
  unfolding run_in fresh_start report_of left_by zeroed_by fronted errors_of output_of is_finished answer_number ended_with start_state source_of
  not_lent f e =
      let q : run_in text set b budget ≡ ended_with answer.Lend 0 (start_state [] (fresh_start text set)) = run_lend (fresh_start text set) (setting_of b budget) (sym e) in
      record { report = f ∙ ap report_of (sym q); buffers = ap (λ (y : Ended). left_by y b) (sym q) }

-- ---- for callers: the counts of an answer lie in the buffers, which keep their lengths

fronted_few : (w old : Bytes) → length (fronted w old) ≡ length old → length w ≤ length old
unfolding fronted
fronted_few w old e = omega (arith, length-append w (drop (length w) old), length-drop (length w) old)

module _ {text set : Bytes} {budget : ℕ} {b a : Buffers} {r : Report} (x : Expanded text set budget b a r) where
  pub output_inside : length a.output ≡ length b.output → r.output ≤ length a.output
  unfolding left_by report_of
  output_inside e =
      let w = output_of (run_in text set b budget) in
      let o : a.output ≡ fronted w b.output = ap (λ (y : Buffers). y.output) x.buffers in
      let n : r.output ≡ length w = ap (λ (y : Report). y.output) x.report in
      omega (arith, fronted_few w b.output (sym (ap length o) ∙ e))

  pub errors_inside : length a.errors ≡ length b.errors → r.errors ≤ length a.errors
  unfolding left_by report_of
  errors_inside e =
      let w = errors_of (run_in text set b budget) in
      let o : a.errors ≡ fronted w b.errors = ap (λ (y : Buffers). y.errors) x.buffers in
      let n : r.errors ≡ length w = ap (λ (y : Report). y.errors) x.report in
      omega (arith, fronted_few w b.errors (sym (ap length o) ∙ e))

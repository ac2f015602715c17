-- What the memory and the machine represent: which calls are open, that it fits its buffers, which buffer a step would overfill, and what a step gives. Assumes nothing.
use Rattle.rules.proofs.Base.{◌≤◌, ◌+◌, ℕ, ◌<◌, ◌∙◌, refl, sym, ap, ◌≡◌, Some, None, List, [], ◌∷◌, arith, length, length-take-le}
use Rattle.rules.specs.declared.Answer.TheVariants as answer
use Rattle.rules.specs.Bytes.{Bytes}
use Rattle.rules.specs.Answers.{Ending, ending_answer, Fault, fault_answer}
use Rattle.rules.specs.Streams.{total_length}
use Rattle.rules.specs.Table.{table_cost}
use Rattle.rules.specs.State.{State, next, stop, refused, Call}
use Rattle.rules.specs.Places.{plus_one}
use Rattle.rules.specs.Run.{Setting, lengths, calls_cost, held, overfull}
use Rattle.expander.specs.declared.machine.Machine.{Machine}
use Rattle.expander.specs.declared.machine.Progress.TheVariants as progress
use Rattle.expander.specs.Front.{Front}
use Rattle.expander.specs.Machine.{Memory, Represents, Follows, Refines}
use Rattle.expander.specs.Calls.{CallsIn}
use Rattle.expander.proofs.SourceLaws.{pending_long}
use Rattle.expander.proofs.CallsLaws.{calls_held}
use Rattle.expander.proofs.Changing.{cost_used}
use Rattle.expander.proofs.Totals.{used_is}
use Rattle.expander.proofs.VerdictLaws.{verdict_next, verdict_stop, verdict_room, verdict_stop_room, verdict_refused, fits_then, overflows}
use Rattle.expander.proofs.Parts.{empty_of}

pub front_long : {buffer : Bytes} {n : ℕ} {w : Bytes} → Front buffer n w → length w ≡ n
front_long {buffer} {n} f = sym (ap length f.text_is) ∙ length-take-le n buffer f.inside

-- ---- what each buffer holds

module _ {a : Setting} {b : Memory} {m : Machine} {s : State} (r : Represents a b m s) where
  pub pending_fits : length s.source.pending ≤ a.pending
  pending_fits = omega (arith, pending_long r.source, r.limits.pending)

  pub calls_fit : calls_cost s.calls ≤ a.calls
  calls_fit = omega (arith, calls_held r.calls, r.calls.strings.used_in, r.limits.calls)

  pub table_fits : table_cost s.table.definitions ≤ a.definitions
  table_fits = omega (arith, cost_used r.table.holds, r.table.holds.packs.used_in, r.limits.definitions)

  pub streams_fit : total_length s.streams.waiting ≤ a.streams
  streams_fit = omega (arith, used_is r.sinks.waiting, r.sinks.waiting.owned.in_bytes, r.limits.streams)

  pub wrap_fits : length s.wrap ≤ a.wrap
  wrap_fits = omega (arith, front_long r.wrap, r.wrap.inside, r.limits.wrap)

  pub errors_fit : length s.errors ≤ a.errors
  errors_fit = omega (arith, front_long r.errors, r.errors.inside, r.limits.errors)

  pub output_fits : length s.streams.output ≤ a.output
  output_fits = omega (arith, front_long r.sinks.written, r.sinks.written.inside, r.limits.output)

-- ---- the open calls

-- the innermost call
pub record Innermost (cs : List Call) : Type 0 where
  pub call : Call
  pub others : List Call
  pub is : cs ≡ call ∷ others

innermost : (cs : List Call) → (length cs ≡ 0 → ⊥) → Innermost cs
innermost [] f = absurd (f refl)
innermost (c ∷ cs) f = record { call = c; others = cs; is = refl }

module _ {a : Setting} {b : Memory} {m : Machine} {s : State} (r : Represents a b m s) where
  pub no_calls : m.calls.opens ≡ 0 → s.calls ≡ []
  no_calls e = empty_of s.calls (r.calls.open_is ∙ e)

  pub some_call : (m.calls.opens ≡ 0 → ⊥) → Innermost s.calls
  some_call f = innermost s.calls (λ e. f (sym r.calls.open_is ∙ e))

  pub top_call : {c : Call} {cs : List Call} → s.calls ≡ c ∷ cs → CallsIn b.calls b.call_ends b.stack m.calls (c ∷ cs)
  top_call e = rw e at r.calls

-- ---- the seven counts against the seven lengths: nothing is overfull, or one buffer is and those before it fit

nothing_over : overfull [] [] ≡ None
unfolding overfull
nothing_over = refl

module _ (a : Setting) (t : State) where
  pub all_fit :
      length t.source.pending ≤ a.pending → calls_cost t.calls ≤ a.calls → table_cost t.table.definitions ≤ a.definitions
      → total_length t.streams.waiting ≤ a.streams → length t.wrap ≤ a.wrap → length t.errors ≤ a.errors
      → length t.streams.output ≤ a.output → overfull (held t) (lengths a) ≡ None
  unfolding held lengths plus_one
  all_fit p c d s w e o =
      fits_then _ _ _ _ None p (fits_then _ _ _ _ None c (fits_then _ _ _ _ None d (fits_then _ _ _ _ None s (fits_then _ _ _ _ None w
      (fits_then _ _ _ _ None e (fits_then _ _ _ _ None o nothing_over))))))

  pub over_pending : a.pending < length t.source.pending → overfull (held t) (lengths a) ≡ Some 0
  unfolding held lengths
  over_pending h = overflows _ _ _ _ h

  module _ (p : length t.source.pending ≤ a.pending) where
    pub over_calls : a.calls < calls_cost t.calls → overfull (held t) (lengths a) ≡ Some 1
    unfolding held lengths plus_one
    over_calls h = fits_then _ _ _ _ (Some 0) p (overflows _ _ _ _ h)

    module _ (c : calls_cost t.calls ≤ a.calls) where
      pub over_table : a.definitions < table_cost t.table.definitions → overfull (held t) (lengths a) ≡ Some 2
      unfolding held lengths plus_one
      over_table h = fits_then _ _ _ _ (Some 1) p (fits_then _ _ _ _ (Some 0) c (overflows _ _ _ _ h))

      module _ (d : table_cost t.table.definitions ≤ a.definitions) where
        pub over_streams : a.streams < total_length t.streams.waiting → overfull (held t) (lengths a) ≡ Some 3
        unfolding held lengths plus_one
        over_streams h = fits_then _ _ _ _ (Some 2) p (fits_then _ _ _ _ (Some 1) c (fits_then _ _ _ _ (Some 0) d (overflows _ _ _ _ h)))

        module _ (s : total_length t.streams.waiting ≤ a.streams) where
          pub over_wrap : a.wrap < length t.wrap → overfull (held t) (lengths a) ≡ Some 4
          unfolding held lengths plus_one
          over_wrap h =
              fits_then _ _ _ _ (Some 3) p
              (fits_then _ _ _ _ (Some 2) c (fits_then _ _ _ _ (Some 1) d (fits_then _ _ _ _ (Some 0) s (overflows _ _ _ _ h))))

          module _ (w : length t.wrap ≤ a.wrap) where
            pub over_errors : a.errors < length t.errors → overfull (held t) (lengths a) ≡ Some 5
            unfolding held lengths plus_one
            over_errors h =
                fits_then _ _ _ _ (Some 4) p
                (fits_then _ _ _ _ (Some 3) c
                (fits_then _ _ _ _ (Some 2) d (fits_then _ _ _ _ (Some 1) s (fits_then _ _ _ _ (Some 0) w (overflows _ _ _ _ h)))))

            pub over_output : length t.errors ≤ a.errors → a.output < length t.streams.output → overfull (held t) (lengths a) ≡ Some 6
            unfolding held lengths plus_one
            over_output e h =
                fits_then _ _ _ _ (Some 5) p
                (fits_then _ _ _ _ (Some 4) c
                (fits_then _ _ _ _ (Some 3) d
                (fits_then _ _ _ _ (Some 2) s (fits_then _ _ _ _ (Some 1) w (fits_then _ _ _ _ (Some 0) e (overflows _ _ _ _ h))))))

-- what is represented fits
pub represents_fits : {a : Setting} {b : Memory} {m : Machine} {s : State} → Represents a b m s → overfull (held s) (lengths a) ≡ None
represents_fits {a} {s} r =
    all_fit a s (pending_fits r) (calls_fit r) (table_fits r) (streams_fit r) (wrap_fits r) (errors_fit r) (output_fits r)

-- ---- what a step gives

module _ {a : Setting} {b : Memory} where
  -- the run goes on from what the memory and the machine represent now
  pub refines_next : {m : Machine} {t : State} {before : Memory} → Represents a b m t → Refines a before (next t) b (record { progress = progress.On; machine = m })
  unfolding Follows
  refines_next {m} {t} r = record { follows = rw (verdict_next (lengths a) t (represents_fits r)) (refl, r) }

  pub refines_stop : {m : Machine} {t : State} {before : Memory} (e : Ending) → Represents a b m t → Refines a before (stop e t) b (record { progress = progress.Ended (ending_answer e); machine = m })
  unfolding Follows
  refines_stop {m} {t} e r = record { follows = rw (verdict_stop (lengths a) e t (represents_fits r)) (refl, r) }

  pub refines_refused : {m : Machine} (f : Fault) → Refines a b (refused f) b (record { progress = progress.Refused (fault_answer f); machine = m })
  unfolding Follows
  refines_refused f = record { follows = rw (verdict_refused (lengths a) f) (refl, refl) }

  pub refines_room :
      {m : Machine} (t : State) (k : ℕ) → overfull (held t) (lengths a) ≡ Some k → Refines a b (next t) b (record { progress = progress.Refused (answer.Room (k + 1)); machine = m })
  unfolding Follows
  refines_room t k e = record { follows = rw (verdict_room (lengths a) t k e) (ap (λ (n : ℕ). progress.Refused (answer.Room n)) (omega arith), refl) }

  pub refines_stop_room :
      {m : Machine} (e : Ending) (t : State) (k : ℕ) → overfull (held t) (lengths a) ≡ Some k → Refines a b (stop e t) b (record { progress = progress.Refused (answer.Room (k + 1)); machine = m })
  unfolding Follows
  refines_stop_room e t k q = record { follows = rw (verdict_stop_room (lengths a) e t k q) (ap (λ (n : ℕ). progress.Refused (answer.Room n)) (omega arith), refl) }

-- dnl and m4exit, and the macros that set text aside.
use Rattle.rules.proofs.Base.{◌≤◌, ◌+◌, ℕ, ◌-◌, ◌<◌, ◌*◌, ◌∙◌, refl, sym, ap, ◌≡◌, subst, Some, None, Option, List, [], ◌++◌, arith, pos, length, length-append}
use Rattle.rules.specs.declared.Answer.TheVariants as answer
use Rattle.rules.specs.Answers.{exit, no_number, fault_answer, ending_answer}
use Rattle.rules.specs.Arguments.{arg, bounded, number_or, separated}
use Rattle.rules.specs.Bytes.{Bytes}
use Rattle.rules.specs.Macros.{call_dnl, call_errprint, call_m4exit, call_m4wrap}
use Rattle.rules.specs.Run.{Setting}
use Rattle.rules.specs.Source.{Source, ahead, advance}
use Rattle.rules.specs.State.{State, next, with_wrap, with_errors, taking, changing}
use Rattle.rules.specs.Streams.{dropped_streams, changed, changed_in_turn}
use Rattle.expander.specs.declared.machine.Machine.{Machine}
use Rattle.expander.specs.declared.machine.Stepped.{Stepped}
use Rattle.expander.specs.declared.machine.Progress.TheVariants as progress
use Rattle.expander.specs.declared.source.Position.{Position}
use Rattle.expander.specs.Limits.{most_lent}
use Rattle.expander.specs.Ahead.{LineEnd}
use Rattle.expander.specs.Filled.{Filled}
use Rattle.expander.specs.Front.{Front}
use Rattle.expander.specs.Machine.{Memory, memory, Represents, Refines, source_set, sinks_set, wrap_set, errors_set, stepped}
use Rattle.expander.specs.Sinks.{SinksIn}
use Rattle.expander.specs.Source.{SourceIn, bytes_ahead}
use Rattle.expander.proofs.FilledLaws.{filled_long, front_more}
use Rattle.expander.proofs.MachineLaws.{front_long, pending_fits, calls_fit, table_fits, streams_fit, wrap_fits, over_wrap, over_errors, refines_stop}
use Rattle.expander.proofs.Parted.{with_source_lem, with_sinks, with_wrap_lem, with_errors_lem}
use Rattle.expander.proofs.SourceLaws.{ahead_long, lent_is}
use Rattle.expander.proofs.SteppedLaws.{stepped_on, stepped_refused, stepped_full}
use Rattle.expander.proofs.Waiting.{none_held}

-- ---- dnl: the line ahead is taken

module _ {text pending : Bytes} {p : Position} {x : Source} (h : SourceIn text pending p x) where
  pub line_ahead : {t : Bytes} {n : ℕ} → t ≡ bytes_ahead text pending p → LineEnd t n → LineEnd (ahead x) n
  line_ahead {n = n} e l = subst (λ (w : Bytes). LineEnd w n) (lent_is h e) l

  pub line_most : {n : ℕ} → LineEnd (ahead x) n → length text ≤ most_lent → length pending ≤ most_lent → n ≤ 2 * most_lent
  line_most l s t = omega (arith, l.within, ahead_long h)

-- ---- what does not fit behind the text at a buffer's front

front_over : {buffer : Bytes} {n : ℕ} {w : Bytes} (x : Bytes) → Front buffer n w → length buffer - n < length x → length buffer < length (w ++ x)
front_over {w = w} x f h = omega (arith, length-append w x, front_long f, f.inside)

module _
    {a : Setting} {text set pending calls : Bytes} {call_ends stack : List ℕ} {definitions : Bytes} {table_ends : List ℕ} {streams : Bytes} {owners : List ℕ}
    {wrap errors output : Bytes} {m : Machine} {s : State}
    (r : Represents a (memory text set pending calls call_ends stack definitions table_ends streams owners wrap errors output) m s) (args : List Bytes) {t : Stepped}
  where
    pub line_taken :
        {before : Memory} {p : Position} {m' : Machine} {n : ℕ} → LineEnd (ahead s.source) n → (n ≤ length (ahead s.source) → SourceIn text pending p (advance n s.source))
        → m' ≡ source_set p m → t ≡ stepped progress.On m' → Refines a before (call_dnl args s) (memory text set pending calls call_ends stack definitions table_ends streams owners wrap errors output) t
    unfolding call_dnl taking
    line_taken l f k e = stepped_on (with_source_lem r (f l.within) refl) (ap (λ (n : ℕ). next (taking n s)) (sym l.line)) (e ∙ ap (stepped progress.On) k)

    module _ {x : Bytes} (e : x ≡ arg 1 args) where
      pub wrap_full :
          length wrap - m.wrap < length x → t ≡ stepped (progress.Refused (answer.Room 5)) m
          → Refines a (memory text set pending calls call_ends stack definitions table_ends streams owners wrap errors output) (call_m4wrap args s)
          (memory text set pending calls call_ends stack definitions table_ends streams owners wrap errors output) t
      unfolding call_m4wrap with_wrap
      wrap_full h f =
          let u = with_wrap (s.wrap ++ x) s in
          stepped_full u 4
          (over_wrap a u (pending_fits r) (calls_fit r) (table_fits r) (streams_fit r) (omega (arith, front_over x r.wrap h, r.limits.wrap)))
          (rw e) f

      pub wrap_more :
          {before : Memory} {wrap' : Bytes} {m' : Machine} → Filled wrap m.wrap x wrap' → m' ≡ wrap_set (m.wrap + length x) m → t ≡ stepped progress.On m'
          → Refines a before (call_m4wrap args s) (memory text set pending calls call_ends stack definitions table_ends streams owners wrap' errors output) t
      unfolding call_m4wrap
      wrap_more g k f = stepped_on (with_wrap_lem r (front_more r.wrap g) (filled_long g)) (rw e) (f ∙ ap (stepped progress.On) k)

    module _ {x : Bytes} (e : x ≡ separated 32 args) {n : ℕ} (l : n ≡ length x) where
      pub errors_full :
          length errors - m.errors < n → t ≡ stepped (progress.Refused (answer.Room 6)) m
          → Refines a (memory text set pending calls call_ends stack definitions table_ends streams owners wrap errors output) (call_errprint args s)
          (memory text set pending calls call_ends stack definitions table_ends streams owners wrap errors output) t
      unfolding call_errprint with_errors
      errors_full h f =
          let u = with_errors (s.errors ++ x) s in
          stepped_full u 5
          (over_errors a u (pending_fits r) (calls_fit r) (table_fits r) (streams_fit r) (wrap_fits r) (omega (arith, front_over x r.errors (omega (arith, l, h)), r.limits.errors)))
          (rw e) f

      pub errors_more :
          {before : Memory} {errors' : Bytes} {m' : Machine} → Filled errors m.errors x errors' → m' ≡ errors_set (m.errors + n) m → t ≡ stepped progress.On m'
          → Refines a before (call_errprint args s) (memory text set pending calls call_ends stack definitions table_ends streams owners wrap errors' output) t
      unfolding call_errprint
      errors_more g k f =
          stepped_on (with_errors_lem r (front_more r.errors g) (filled_long g)) (rw e)
          (f ∙ ap (stepped progress.On) (k ∙ ap (λ (i : ℕ). errors_set (m.errors + i) m) l))

    module _ {c : Option ℕ} (e : c ≡ bounded 0 255 (number_or (pos 0) 1 args)) where
      pub exit_refused :
          c ≡ None → t ≡ stepped (progress.Refused answer.Number) m
          → Refines a (memory text set pending calls call_ends stack definitions table_ends streams owners wrap errors output) (call_m4exit args s)
          (memory text set pending calls call_ends stack definitions table_ends streams owners wrap errors output) t
      unfolding call_m4exit fault_answer
      exit_refused h f =
          let q : bounded 0 255 (number_or (pos 0) 1 args) ≡ None = sym e ∙ h in
          stepped_refused {m = m} no_number (rw (q, call_m4exit)) f

      pub exited :
          {before : Memory} {m' m'' : Machine} (code : ℕ) → c ≡ Some code → m' ≡ sinks_set (record { current = m.sinks.current; waiting = 0; output = m.sinks.output }) m
          → m'' ≡ wrap_set 0 m' → t ≡ stepped (progress.Ended (answer.Exit code)) m''
          → Refines a before (call_m4exit args s) (memory text set pending calls call_ends stack definitions table_ends streams owners wrap errors output) t
      unfolding call_m4exit changing changed_in_turn changed ending_answer dropped_streams
      exited code h j k f =
          let q : bounded 0 255 (number_or (pos 0) 1 args) ≡ Some code = sym e ∙ h in
          let z : SinksIn streams owners output (record { current = m.sinks.current; waiting = 0; output = m.sinks.output }) (dropped_streams s.streams) =
          record { waiting = none_held streams owners; written = r.sinks.written; current = r.sinks.current } in
          let w : Front wrap 0 [] = record { text_is = refl; inside = omega arith } in
          rw (q, call_m4exit, f, k, j) (refines_stop (exit code) (with_wrap_lem (with_sinks r z refl refl refl) w refl))

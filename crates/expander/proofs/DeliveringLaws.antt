-- Laws of tokens that stand for themselves, and of calls that are opened: what fits, and what is represented then. Assumes nothing.
use Rattle.expander.specs.Limits.{most_lent}
use Rattle.rules.proofs.Base.{◌*◌, ◌≤◌, ◌+◌, ℕ, ◌-◌, ◌<◌, suc, zero, ◌∙◌, refl, sym, ap, ◌≡◌, subst, true, Bool, false, ◌||◌, or-true, Some, none-some, same_Some, List, [], ◌++◌, ◌∷◌, add-one, arith, leb, ltb, pos, ℤ, length, drop, take, get_or, length-append, length-drop, set, length-take, le-leb, lt-leb, ltb-true, ltb-false}
use Rattle.rules.specs.declared.Answer.TheVariants as answer
use Rattle.rules.specs.Bytes.{Bytes}
use Rattle.rules.specs.Answers.{deep, fault_answer}
use Rattle.rules.specs.Source.{Source, ahead, advance}
use Rattle.rules.specs.Streams.{Streams, placed, changed, changed_in_turn, total_length}
use Rattle.rules.specs.State.{Call, State, Outcome, next, refused, with_source, with_calls, with_streams, taking, changing, emitting}
use Rattle.rules.specs.Run.{Setting, lengths, calls_cost, held, overfull}
use Rattle.rules.specs.Step.{delivered, collecting, argument_count, open_call, opened, next_argument, comma_met}
use Rattle.expander.specs.declared.calls.Calls.{Calls}
use Rattle.expander.specs.declared.machine.Machine.{Machine}
use Rattle.expander.specs.declared.machine.Stepped.{Stepped}
use Rattle.expander.specs.declared.machine.Progress.TheVariants as progress
use Rattle.expander.specs.declared.sinks.Sinks.{Sinks}
use Rattle.expander.specs.declared.source.Position.{Position}
use Rattle.expander.specs.Source.{SourceIn}
use Rattle.expander.specs.Calls.{CallsIn, CallRoom}
use Rattle.expander.specs.Streams.{IsStream, extended}
use Rattle.expander.specs.Sinks.{SinksIn, full_buffer}
use Rattle.expander.specs.Machine.{Memory, Represents, Reach, Refines, bytes_ahead, stepped, source_set, calls_set, sinks_set, calls_at, sinks_at}
use Rattle.expander.proofs.SourceLaws.{ahead_long, lent_is}
use Rattle.expander.proofs.CallsLaws.{calls_held, calls_counted}
use Rattle.expander.proofs.Totals.{used_is}
use Rattle.expander.proofs.StreamMoves.{placed_to, placed_out}
use Rattle.expander.proofs.SinksLaws.{Waits, Current, goes_out, goes_behind, goes_lost, current_is, full_output, free_output, free_lost, full_stream, free_stream}
use Rattle.expander.proofs.MachineLaws.{front_long, pending_fits, calls_fit, table_fits, streams_fit, wrap_fits, errors_fit, over_calls, over_streams, over_output, refines_next, refines_room, no_calls, some_call}
use Rattle.expander.proofs.Parted.{with_source_lem, with_calls_lem, with_sinks}
use Rattle.expander.proofs.SteppedLaws.{stepped_refused}

-- ---- the text ahead

-- taking only shortens the pending text
pub shorter : (n : ℕ) (x : Source) → length (advance n x).pending ≤ length x.pending
unfolding advance
shorter n x = omega (arith, length-drop n x.pending)

-- ---- how much the parts of a state hold then

pub total_set : (ws : List Bytes) (k : ℕ) (v : Bytes) → k < length ws → total_length (set ws k v) + length (get_or ws k []) ≡ total_length ws + length v
unfolding total_length
total_set [] k v h = absurd (omega arith)
total_set (w ∷ ws) zero v h = omega arith
total_set (w ∷ ws) (suc k) v h = omega (arith, total_set ws k v (omega arith))

total_extended : (i : ℕ) (w : Bytes) (ws : List Bytes) → IsStream i → length ws ≡ 9 → total_length (extended i w ws) ≡ total_length ws + length w
unfolding extended
total_extended i w ws h n =
    omega (arith, total_set ws (i - 1) (get_or ws (i - 1) [] ++ w) (omega (arith, h.low, h.high)), length-append (get_or ws (i - 1) []) w)

cost_collected : (w : Bytes) (d : ℕ) (c : Call) (cs : List Call) → calls_cost (collecting w d c ∷ cs) ≡ calls_cost (c ∷ cs) + length w
unfolding calls_cost collecting
cost_collected w d c cs = omega (arith, length-append c.current w)

cost_opened : (name : Bytes) (cs : List Call) → calls_cost (open_call name ∷ cs) ≡ calls_cost cs + length name
unfolding calls_cost open_call total_length
cost_opened name cs = omega arith

-- ---- calls and arguments are few, or too many

module _ (name : Bytes) (t : State) where
  opened_deep : (leb 64 (length t.calls) || leb 256 (argument_count t.calls)) ≡ true → opened name t ≡ refused deep
  unfolding opened
  opened_deep e = rw (e, opened)

  opened_free : (leb 64 (length t.calls) || leb 256 (argument_count t.calls)) ≡ false → opened name t ≡ next (with_calls (open_call name ∷ t.calls) t)
  unfolding opened
  opened_free e = rw (e, opened)

module _ (c : Call) (cs : List Call) (s : State) where
  comma_deep : 256 ≤ argument_count (c ∷ cs) → comma_met c cs s ≡ refused deep
  unfolding comma_met
  comma_deep h = rw (le-leb 256 (argument_count (c ∷ cs)) h, comma_met)

  comma_free : argument_count (c ∷ cs) < 256 → comma_met c cs s ≡ next (with_calls (next_argument c ∷ cs) s)
  unfolding comma_met
  comma_free h = rw (lt-leb 256 (argument_count (c ∷ cs)) h, comma_met)

-- ---- room: of a state whose pending text, streams or calls are others

-- a state overfills the buffer with a number
pub record Overfull (a : Setting) (t : State) (full : ℕ) : Type 0 where
  pub buffer : ℕ
  pub is : full ≡ buffer + 1
  pub over : overfull (held t) (lengths a) ≡ Some buffer

refines_overfull : {a : Setting} {b : Memory} {m : Machine} {t : State} {full : ℕ} → Overfull a t full → Refines a b (next t) b (stepped (progress.Refused (answer.Room full)) m)
refines_overfull {t = t} f = rw f.is (refines_room t f.buffer f.over)

module _ {a : Setting} {b : Memory} {m : Machine} {s : State} (r : Represents a b m s) (x : Source) (px : length x.pending ≤ a.pending) where
  pub streams_over : (y : Streams) → a.streams < total_length y.waiting → overfull (held (with_streams y (with_source x s))) (lengths a) ≡ Some 3
  unfolding with_source with_streams
  streams_over y h = over_streams a (with_streams y (with_source x s)) px (calls_fit r) (table_fits r) h

  pub output_over :
      (y : Streams) → total_length y.waiting ≤ a.streams → a.output < length y.output → overfull (held (with_streams y (with_source x s))) (lengths a) ≡ Some 6
  unfolding with_source with_streams
  output_over y k h = over_output a (with_streams y (with_source x s)) px (calls_fit r) (table_fits r) k (wrap_fits r) (errors_fit r) h

  pub calls_over : (cs : List Call) → a.calls < calls_cost cs → overfull (held (with_calls cs (with_source x s))) (lengths a) ≡ Some 1
  unfolding with_source with_calls
  calls_over cs h = over_calls a (with_calls cs (with_source x s)) px h

  -- bytes to the current stream do not fit
  emit_over :
      (w : Bytes) (n full : ℕ) → length w ≡ n → Some full ≡ full_buffer m.sinks.current n (length b.streams - m.sinks.waiting) (length b.output - m.sinks.output)
      → Overfull a (emitting w (with_source x s)) full
  unfolding emitting changing changed_in_turn changed with_source
  emit_over w n full en ef = go (current_is c)
    where
      c : ℤ
      c = m.sinks.current

      left : ℕ
      left = length b.streams - m.sinks.waiting

      free : ℕ
      free = length b.output - m.sinks.output

      -- by what the streams are then
      by : (k : ℕ) (y : Streams) → full ≡ k + 1 → placed s.streams.current w s.streams ≡ y → overfull (held (with_streams y (with_source x s))) (lengths a) ≡ Some k
          → Overfull a (emitting w (with_source x s)) full
      by k y e p h =
          record { buffer = k; is = e; over = subst (λ (z : Streams). overfull (held (with_streams z (with_source x s))) (lengths a) ≡ Some k) (sym p) h }

      out : (t : Bool) → ltb free n ≡ t → c ≡ pos 0 → Overfull a (emitting w (with_source x s)) full
      out true q e =
          let y : Streams = record { output = s.streams.output ++ w; waiting = s.streams.waiting; current = s.streams.current } in
          by 6 y (same_Some full 7 (ef ∙ sym (full_output c n left free e (ltb-true free n q))))
          (ap (λ (z : ℤ). placed z w s.streams) (r.sinks.current ∙ e) ∙ placed_out w s.streams)
          (output_over y (streams_fit r)
          (omega (arith, ltb-true free n q, length-append s.streams.output w, front_long r.sinks.written, r.sinks.written.inside, r.limits.output)))
      out false q e = absurd (none-some full (sym (ef ∙ sym (free_output c n left free e (ltb-false free n q)))))

      stream : (t : Bool) → ltb left n ≡ t → (i : ℕ) → Waits c i → Overfull a (emitting w (with_source x s)) full
      stream true q i h =
          let y : Streams = record { output = s.streams.output; waiting = extended i w s.streams.waiting; current = s.streams.current } in
          by 3 y (same_Some full 4 (ef ∙ sym (full_stream c n left free h (ltb-true left n q))))
          (ap (λ (z : ℤ). placed z w s.streams) (r.sinks.current ∙ h.is) ∙ placed_to i h.stream w s.streams)
          (streams_over y
          (omega (arith, ltb-true left n q, total_extended i w s.streams.waiting h.stream r.sinks.waiting.nine, used_is r.sinks.waiting, r.sinks.waiting.owned.in_bytes, r.limits.streams)))
      stream false q i h = absurd (none-some full (sym (ef ∙ sym (free_stream c n left free h (ltb-false left n q)))))

      go : Current c → Overfull a (emitting w (with_source x s)) full
      go (goes_out e) = out (ltb free n) refl e
      go (goes_behind i h) = stream (ltb left n) refl i h
      go (goes_lost e) = absurd (none-some full (sym (ef ∙ sym (free_lost c n left free e))))

-- ---- the bounds that `Represents` gives

module _ {a : Setting} {b : Memory} {m : Machine} {s : State} (r : Represents a b m s) {start n width : ℕ} (h : Reach b.text b.pending m.source start n width) where
  pub reach_advances : (m.source.from ≤ length b.pending) × (length b.pending ≤ most_lent) × (m.source.taken ≤ most_lent) × (width ≤ 2 * most_lent)
  reach_advances = (
    r.source.from_in,
    r.limits.pending_most,
    omega (arith, r.source.taken_in, r.limits.text),
    omega (arith, h.whole, r.limits.pending_most, r.limits.text),
  )

  -- of what is lent
  pub reach_lent : {t : Bytes} → t ≡ bytes_ahead b.text b.pending m.source → start + n ≤ length t
  reach_lent e =
      omega (arith, h.some, ahead_long r.source, ap length (lent_is r.source e))

  pub reach_whole : width ≤ length (ahead s.source)
  reach_whole = omega (arith, h.whole, ahead_long r.source)

  pub reach_taken : length (take n (drop start (ahead s.source))) ≡ n
  reach_taken = omega (arith, h.some, ahead_long r.source, length-take n (drop start (ahead s.source)), length-drop start (ahead s.source))

-- a name and the byte behind it
pub reach_name : {text pending : Bytes} {p : Position} {n : ℕ} → Reach text pending p 0 n (suc n) → Reach text pending p 0 n (n + 1)
reach_name h = record { some = h.some; whole = omega (arith, h.whole) }

module _ {a : Setting} {b : Memory} {m : Machine} {s : State} (r : Represents a b m s) where
  -- n bytes more fit behind the strings of the open calls
  pub call_room : (n : ℕ) → m.calls.strings.used + n ≤ length b.calls → CallRoom b.calls b.call_ends b.stack m.calls n
  call_room n h = record { calls = s.calls; are = r.calls; short = r.limits.calls_most; links = record { ends_long = r.limits.call_ends; stack_long = r.limits.stack }; fits = h }

  -- a token goes to the current stream, or is collected
  module _ {b' : Memory} {t : Stepped} (w : Bytes) (u : State) where
    pub delivers_out : m.calls.opens ≡ 0 → Refines a b (next (emitting w u)) b' t → Refines a b (next (delivered w s.calls u)) b' t
    unfolding delivered
    delivers_out e g = rw (no_calls r e) g

    pub delivers_in :
        (m.calls.opens ≡ 0 → ⊥) → ((c : Call) (cs : List Call) → s.calls ≡ c ∷ cs → Refines a b (next (with_calls (collecting w c.depth c ∷ cs) u)) b' t)
        → Refines a b (next (delivered w s.calls u)) b' t
    unfolding delivered
    delivers_in f g = let i = some_call r f in rw i.is (g i.call i.others i.is)

  after : (width : ℕ) → length (advance width s.source).pending ≤ a.pending
  after width = omega (arith, shorter width s.source, pending_fits r)

  pub token_full :
      (w : Bytes) (n width full : ℕ) → length w ≡ n → Some full ≡ full_buffer m.sinks.current n (length b.streams - m.sinks.waiting) (length b.output - m.sinks.output)
      → Refines a b (next (emitting w (taking width s))) b (stepped (progress.Refused (answer.Room full)) m)
  unfolding taking
  token_full w n width full en ef = refines_overfull (emit_over r (advance width s.source) (after width) w n full en ef)

  pub byte_full :
      (z full : ℕ) → Some full ≡ full_buffer m.sinks.current 1 (length b.streams - m.sinks.waiting) (length b.output - m.sinks.output)
      → Refines a b (next (emitting (z ∷ []) s)) b (stepped (progress.Refused (answer.Room full)) m)
  unfolding with_source
  byte_full z full ef = refines_overfull (emit_over r s.source (pending_fits r) (z ∷ []) 1 full refl ef)

  -- they are placed
  module _
      {streams' : Bytes} {owners' : List ℕ} {output' : Bytes} {k : Sinks} (e-streams : length streams' ≡ length b.streams) (e-owners : length owners' ≡ length b.owners)
      (e-output : length output' ≡ length b.output)
    where
      pub token_emitted :
          {p : Position} {t : Bytes} (start n width : ℕ) → t ≡ bytes_ahead b.text b.pending m.source
          → SinksIn streams' owners' output' k (placed s.streams.current (take n (drop start t)) s.streams)
          → SourceIn b.text b.pending p (advance width s.source)
          → Refines a b (next (emitting (take n (drop start (ahead s.source))) (taking width s))) (sinks_at streams' owners' output' b) (stepped progress.On (sinks_set k (source_set p m)))
      unfolding emitting changing changed_in_turn changed taking with_source
      token_emitted start n width e h q =
          let g : SinksIn streams' owners' output' k (placed s.streams.current (take n (drop start (ahead s.source))) s.streams) =
          subst (λ (l : Bytes). SinksIn streams' owners' output' k (placed s.streams.current (take n (drop start l)) s.streams)) (lent_is r.source e) h in
          refines_next (with_sinks (with_source_lem r q refl) g e-streams e-owners e-output)

      pub byte_emitted :
          (z : ℕ) → SinksIn streams' owners' output' k (placed s.streams.current (z ∷ []) s.streams)
          → Refines a b (next (emitting (z ∷ []) s)) (sinks_at streams' owners' output' b) (stepped progress.On (sinks_set k m))
      unfolding emitting changing changed_in_turn changed
      byte_emitted z h = refines_next (with_sinks r h e-streams e-owners e-output)

  -- ---- bytes that a call collects

  collect_over :
      (x : Source) → length x.pending ≤ a.pending → (w : Bytes) (n d : ℕ) (c : Call) (cs : List Call) → s.calls ≡ c ∷ cs → length w ≡ n
      → length b.calls - m.calls.strings.used < n
      → Refines a b (next (with_calls (collecting w d c ∷ cs) (with_source x s))) b (stepped (progress.Refused (answer.Room 2)) m)
  collect_over x px w n d c cs e en h =
      refines_room (with_calls (collecting w d c ∷ cs) (with_source x s)) 1
      (calls_over r x px (collecting w d c ∷ cs)
      (omega (arith, cost_collected w d c cs, ap calls_cost e, calls_held r.calls, r.calls.strings.used_in, r.limits.calls)))

  pub collect_full :
      (w : Bytes) (n d width : ℕ) (c : Call) (cs : List Call) → s.calls ≡ c ∷ cs → length w ≡ n → length b.calls - m.calls.strings.used < n
      → Refines a b (next (with_calls (collecting w d c ∷ cs) (taking width s))) b (stepped (progress.Refused (answer.Room 2)) m)
  unfolding taking
  collect_full w n d width c cs e en h = collect_over (advance width s.source) (after width) w n d c cs e en h

  pub collect_one_full :
      (z d : ℕ) (c : Call) (cs : List Call) → s.calls ≡ c ∷ cs → length b.calls ≤ m.calls.strings.used
      → Refines a b (next (with_calls (collecting (z ∷ []) d c ∷ cs) s)) b (stepped (progress.Refused (answer.Room 2)) m)
  unfolding with_source
  collect_one_full z d c cs e h = collect_over s.source (pending_fits r) (z ∷ []) 1 d c cs e refl (omega arith)

  module _
      {calls' : Bytes} {ends' stack' : List ℕ} {k : Calls} (e-calls : length calls' ≡ length b.calls) (e-ends : length ends' ≡ length b.call_ends)
      (e-stack : length stack' ≡ length b.stack)
    where
      pub calls_changed : (cs : List Call) → CallsIn calls' ends' stack' k cs → Refines a b (next (with_calls cs s)) (calls_at calls' ends' stack' b) (stepped progress.On (calls_set k m))
      calls_changed cs h = refines_next (with_calls_lem r h e-calls e-ends e-stack)

      both_changed :
          {p : Position} (cs : List Call) (width : ℕ) → CallsIn calls' ends' stack' k cs → SourceIn b.text b.pending p (advance width s.source)
          → Refines a b (next (with_calls cs (taking width s))) (calls_at calls' ends' stack' b) (stepped progress.On (calls_set k (source_set p m)))
      unfolding taking
      both_changed cs width h q = refines_next (with_calls_lem (with_source_lem r q refl) h e-calls e-ends e-stack)

      pub token_collected :
          {p : Position} {t : Bytes} (start n width : ℕ) (c : Call) (cs : List Call) → t ≡ bytes_ahead b.text b.pending m.source
          → CallsIn calls' ends' stack' k (collecting (take n (drop start t)) c.depth c ∷ cs)
          → SourceIn b.text b.pending p (advance width s.source)
          → Refines a b (next (with_calls (collecting (take n (drop start (ahead s.source))) c.depth c ∷ cs) (taking width s))) (calls_at calls' ends' stack' b)
          (stepped progress.On (calls_set k (source_set p m)))
      token_collected start n width c cs e h q =
          let g : CallsIn calls' ends' stack' k (collecting (take n (drop start (ahead s.source))) c.depth c ∷ cs) =
          subst (λ (l : Bytes). CallsIn calls' ends' stack' k (collecting (take n (drop start l)) c.depth c ∷ cs)) (lent_is r.source e) h in
          both_changed (collecting (take n (drop start (ahead s.source))) c.depth c ∷ cs) width g q

  -- ---- a call is opened

  refuses_deep : {o : Outcome} → o ≡ refused deep → Refines a b o b (stepped (progress.Refused answer.Deep) m)
  unfolding fault_answer
  refuses_deep e = stepped_refused deep e refl

  pub open_deep : (name : Bytes) (width : ℕ) → 64 ≤ m.calls.opens → Refines a b (opened name (taking width s)) b (stepped (progress.Refused answer.Deep) m)
  unfolding taking with_source
  open_deep name width h = refuses_deep (opened_deep name (taking width s) (rw (le-leb 64 (length s.calls) (omega (arith, r.calls.open_is)))))

  pub open_many :
      (name : Bytes) (width : ℕ) → 256 ≤ m.calls.strings.count - m.calls.opens → Refines a b (opened name (taking width s)) b (stepped (progress.Refused answer.Deep) m)
  unfolding taking with_source
  open_many name width h =
      refuses_deep
      (opened_deep name (taking width s) (rw (le-leb 256 (argument_count s.calls) (omega (arith, calls_counted r.calls))) (or-true (leb 64 (length s.calls)))))

  open_free :
      (name : Bytes) (width : ℕ) → m.calls.opens < 64 → m.calls.strings.count - m.calls.opens < 256
      → opened name (taking width s) ≡ next (with_calls (open_call name ∷ s.calls) (taking width s))
  unfolding taking with_source
  open_free name width h k =
      opened_free name (taking width s)
      (rw (lt-leb 64 (length s.calls) (omega (arith, r.calls.open_is)), lt-leb 256 (argument_count s.calls) (omega (arith, calls_counted r.calls))))

  pub open_full :
      (name : Bytes) (n width : ℕ) → m.calls.opens < 64 → m.calls.strings.count - m.calls.opens < 256 → length name ≡ n
      → length b.calls - m.calls.strings.used < n → Refines a b (opened name (taking width s)) b (stepped (progress.Refused (answer.Room 2)) m)
  unfolding taking
  open_full name n width h k en l =
      rw (open_free name width h k)
      (refines_room (with_calls (open_call name ∷ s.calls) (taking width s)) 1
      (calls_over r (advance width s.source) (after width) (open_call name ∷ s.calls)
      (omega (arith, cost_opened name s.calls, calls_held r.calls, r.calls.strings.used_in, r.limits.calls))))

  pub call_opened :
      {calls' t : Bytes} {ends' stack' : List ℕ} {k : Calls} {p : Position} → length calls' ≡ length b.calls → length ends' ≡ length b.call_ends
      → length stack' ≡ length b.stack → (n : ℕ) → m.calls.opens < 64 → m.calls.strings.count - m.calls.opens < 256
      → t ≡ bytes_ahead b.text b.pending m.source
      → CallsIn calls' ends' stack' k (open_call (take n t) ∷ s.calls)
      → SourceIn b.text b.pending p (advance (n + 1) s.source)
      → Refines a b (opened (take n (ahead s.source)) (taking (suc n) s)) (calls_at calls' ends' stack' b) (stepped progress.On (calls_set k (source_set p m)))
  call_opened {calls'} {ends' = ends'} {stack' = stack'} {k = k} e-calls e-ends e-stack n l f e h q =
      let g : CallsIn calls' ends' stack' k (open_call (take n (ahead s.source)) ∷ s.calls) =
      subst (λ (w : Bytes). CallsIn calls' ends' stack' k (open_call (take n w) ∷ s.calls)) (lent_is r.source e) h in
      rw (open_free (take n (ahead s.source)) (suc n) l f)
      (both_changed e-calls e-ends e-stack (open_call (take n (ahead s.source)) ∷ s.calls) (suc n) g (rw add-one at q))

  -- ---- a comma

  pub comma_many :
      (c : Call) (cs : List Call) → s.calls ≡ c ∷ cs → 256 ≤ m.calls.strings.count - m.calls.opens → Refines a b (comma_met c cs s) b (stepped (progress.Refused answer.Deep) m)
  comma_many c cs e h = refuses_deep (comma_deep c cs s (omega (arith, calls_counted r.calls, ap argument_count e)))

  pub comma_next :
      {ends' stack' : List ℕ} {k : Calls} (c : Call) (cs : List Call) → s.calls ≡ c ∷ cs → m.calls.strings.count - m.calls.opens < 256
      → CallsIn b.calls ends' stack' k (next_argument c ∷ cs) → length ends' ≡ length b.call_ends → length stack' ≡ length b.stack
      → Refines a b (comma_met c cs s) (calls_at b.calls ends' stack' b) (stepped progress.On (calls_set k m))
  comma_next c cs e h i e-ends e-stack =
      rw (comma_free c cs s (omega (arith, calls_counted r.calls, ap argument_count e))) (calls_changed refl e-ends e-stack (next_argument c ∷ cs) i)

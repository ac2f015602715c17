-- Laws of the macros that change the streams, and of the end of the run. Assumes nothing.
use Rattle.rules.proofs.Base.{◌≤◌, ◌+◌, ℕ, ◌-◌, ◌<◌, suc, zero, ◌∙◌, refl, sym, ap, ◌≡◌, subst, ap₂, subst₂, true, false, ◌⊎◌, inl, inr, ⊎_elim, Some, None, List, [], ◌++◌, ◌∷◌, append-nil, ℕ_discrete, arith, leb, pos, ℤ, length, drop, take, get_or, length-append, length-drop, set, length-set, replicate, length-replicate, get_or-replicate, get_or-drop, get_or-set_same, get_or-set_other, leb-false}
use borrow.Rule.Slice.PartMut.{put_mid}
use Rattle.rules.specs.declared.Answer.TheVariants as answer
use Rattle.rules.specs.Bytes.{Bytes}
use Rattle.rules.specs.Answers.{done, ending_answer, no_number, fault_answer}
use Rattle.rules.specs.Arguments.{number_or}
use Rattle.rules.specs.Streams.{Streams, total_length, moved, moved_in_turn, joined, finished_streams, diverted, changed, changed_in_turn, discards}
use Rattle.rules.specs.Macros.{call_divert, call_undivert}
use Rattle.rules.specs.State.{State, next, stop, refused, with_source, with_streams, changing}
use Rattle.rules.specs.Run.{Setting}
use Rattle.rules.proofs.Changes.{moves_in_turn}
use Rattle.rules.proofs.StreamLaws.{moved_current}
use Rattle.expander.specs.declared.sinks.Sinks.{Sinks}
use Rattle.expander.specs.declared.machine.Machine.{Machine}
use Rattle.expander.specs.declared.machine.Progress.TheVariants as progress
use Rattle.expander.specs.Streams.{IsStream, StreamsIn, owned_by, owned_count, behind_stream}
use Rattle.expander.specs.Sinks.{SinksIn}
use Rattle.expander.specs.Filled.{Filled}
use Rattle.expander.specs.Front.{Front}
use Rattle.expander.specs.Diverting.{all_named, turns, Idle, Seen}
use Rattle.expander.specs.Machine.{Memory, Represents, Refines, stepped, sinks_set, sinks_at}
use Rattle.expander.proofs.CallsLaws.{joined_total}
use Rattle.expander.proofs.Waiting.{none_held, text_of, length_of_lem, nothing_out, nothing-moved}
use Rattle.expander.proofs.FilledLaws.{filled_long, part_fills, front_more}
use Rattle.expander.proofs.SinksLaws.{Waits, Current, goes_out, goes_behind, goes_lost, current_is}
use Rattle.expander.proofs.StreamMoves.{moved_same, moved_to, moved_out, moved_lost, turn_on, turns_end}
use Rattle.expander.proofs.Parted.{with_sinks}
use Rattle.expander.proofs.Totals.{used_is}
use Rattle.expander.proofs.UndivertOrder.{undivert_named, undivert_unnamed, turn_each}
use Rattle.expander.proofs.MachineLaws.{front_long, pending_fits, streams_fit, refines_next, refines_stop, refines_room, refines_stop_room}
use Rattle.expander.proofs.DeliveringLaws.{total_set, output_over}
use Rattle.expander.proofs.SteppedLaws.{stepped_on, stepped_refused}

-- ---- what a move makes of the streams, by the current one

module _
    (P : Streams → Type 0) (i : ℕ) (h : IsStream i) (u : Streams) (same : u.current ≡ pos i → P u)
    (to : (j : ℕ) → u.current ≡ pos j → IsStream j → (i ≡ j → ⊥) → P (record { output = u.output; waiting = behind_stream i j u.waiting; current = u.current }))
    (out : u.current ≡ pos 0 → P (record { output = u.output ++ get_or u.waiting (i - 1) []; waiting = set u.waiting (i - 1) []; current = u.current }))
    (lost : P (record { output = u.output; waiting = set u.waiting (i - 1) []; current = u.current }))
  where
    pub moved_any : P (moved i u)
    moved_any = go (current_is u.current)
      where
        on : (j : ℕ) → Waits u.current j → Dec (i ≡ j) → P (moved i u)
        on j w (yes d) = let e : u.current ≡ pos i = w.is ∙ ap pos (sym d) in subst P (sym (moved_same i u e)) (same e)
        on j w (no d) = subst P (sym (moved_to i h u j w.is w.stream d)) (to j w.is w.stream d)

        go : Current u.current → P (moved i u)
        go (goes_out e) = subst P (sym (moved_out i h u e)) (out e)
        go (goes_behind j w) = on j w (ℕ_discrete i j)
        go (goes_lost e) = subst P (sym (moved_lost i h u e)) lost

-- ---- the output is no shorter then, it and what waits are no longer in all, and there are nine streams

total_out : (ws : List Bytes) (k : ℕ) → length (get_or ws k []) + total_length (set ws k []) ≡ total_length ws
unfolding total_length
total_out [] k = refl
total_out (w ∷ ws) zero = omega arith
total_out (w ∷ ws) (suc k) = omega (arith, total_out ws k)

total_behind : (i j : ℕ) (ws : List Bytes) → IsStream i → IsStream j → (i ≡ j → ⊥) → length ws ≡ 9 → total_length (behind_stream i j ws) ≡ total_length ws
unfolding behind_stream
total_behind i j ws h k d n =
    let vs = set ws (i - 1) [] in
    let e : get_or vs (j - 1) [] ≡ get_or ws (j - 1) [] = get_or-set_other ws (i - 1) (j - 1) [] [] (λ q. d (omega (arith, h.low, k.low))) in
    omega (
      arith,
      ap length e,
      total_out ws (i - 1),
      total_set vs (j - 1) (get_or ws (j - 1) [] ++ get_or ws (i - 1) []) (omega (arith, k.low, k.high, length-set ws (i - 1) [])),
      length-append (get_or ws (j - 1) []) (get_or ws (i - 1) []),
    )

module _ (i : ℕ) (h : IsStream i) (u : Streams) (n : length u.waiting ≡ 9) where
  pub moved_nine : length (moved i u).waiting ≡ 9
  unfolding behind_stream
  moved_nine =
      moved_any (λ (x : Streams). length x.waiting ≡ 9) i h u (λ e. n)
      (λ j e k d. length-set (set u.waiting (i - 1) []) (j - 1) (get_or u.waiting (j - 1) [] ++ get_or u.waiting (i - 1) []) ∙ length-set u.waiting (i - 1) [] ∙ n)
      (λ e. length-set u.waiting (i - 1) [] ∙ n) (length-set u.waiting (i - 1) [] ∙ n)

  moved_more : length u.output ≤ length (moved i u).output
  moved_more =
      moved_any (λ (x : Streams). length u.output ≤ length x.output) i h u (λ e. omega arith) (λ j e k d. omega arith)
      (λ e. omega (arith, length-append u.output (get_or u.waiting (i - 1) []))) (omega arith)

  moved_sum : length (moved i u).output + total_length (moved i u).waiting ≤ length u.output + total_length u.waiting
  moved_sum =
      let l = total_out u.waiting (i - 1) in
      moved_any (λ (x : Streams). length x.output + total_length x.waiting ≤ length u.output + total_length u.waiting) i h u (λ e. omega arith)
      (λ j e k d. omega (arith, total_behind i j u.waiting h k d n))
      (λ e. omega (arith, length-append u.output (get_or u.waiting (i - 1) []))) (omega arith)

pub turns_sum :
    (ns : List ℕ) → ((k : ℕ) → k < length ns → IsStream (get_or ns k 0)) → (u : Streams) → length u.waiting ≡ 9
    → (length u.output ≤ length (moved_in_turn ns u).output) × (length (moved_in_turn ns u).output + total_length (moved_in_turn ns u).waiting ≤ length u.output + total_length u.waiting)
unfolding moved_in_turn
turns_sum [] f u n = (omega arith, omega arith)
turns_sum (i ∷ ns) f u n =
    let h : IsStream i = f 0 (omega arith) in
    let r = turns_sum ns (λ k l. f (suc k) (omega arith)) (moved i u) (moved_nine i h u n) in
    (omega (arith, r.0, moved_more i h u n), omega (arith, r.1, moved_sum i h u n))

-- ---- streams that a move leaves alone

still_empty : (ws : List Bytes) (n k : ℕ) → get_or ws k [] ≡ [] → get_or (set ws n []) k [] ≡ []
still_empty [] n k e = e
still_empty (w ∷ ws) zero zero e = refl
still_empty (w ∷ ws) zero (suc k) e = e
still_empty (w ∷ ws) (suc n) zero e = e
still_empty (w ∷ ws) (suc n) (suc k) e = still_empty ws n k e

module _ (i : ℕ) (h : IsStream i) (u : Streams) where
  empty_same : get_or u.waiting (i - 1) [] ≡ [] → moved i u ≡ u
  empty_same e =
      let l : length (get_or u.waiting (i - 1) []) ≡ 0 = ap length e in
      moved_any (λ (x : Streams). x ≡ u) i h u (λ c. refl)
      (λ j c k d. ap {B = Streams} (λ (ws : List Bytes). record { output = u.output; waiting = ws; current = u.current }) (nothing-moved u.waiting i j l))
      (λ c. ap₂ {C = Streams} (λ (o : Bytes) (ws : List Bytes). record { output = o; waiting = ws; current = u.current }) (ap (λ (w : Bytes). u.output ++ w) e ∙ append-nil u.output) (nothing_out u.waiting i l))
      (ap {B = Streams} (λ (ws : List Bytes). record { output = u.output; waiting = ws; current = u.current }) (nothing_out u.waiting i l))

  idle_same : Idle i u → moved i u ≡ u
  unfolding Idle
  idle_same d = ⊎_elim (moved_same i u) empty_same d

  idle_after : length u.waiting ≡ 9 → Idle i (moved i u)
  unfolding Idle behind_stream
  idle_after n =
      let e : get_or (set u.waiting (i - 1) []) (i - 1) [] ≡ [] = get_or-set_same u.waiting (i - 1) [] [] (omega (arith, h.low, h.high)) in
      moved_any (λ (x : Streams). (x.current ≡ pos i) ⊎ (get_or x.waiting (i - 1) [] ≡ [])) i h u inl
      (λ j c k d. inr (get_or-set_other (set u.waiting (i - 1) []) (j - 1) (i - 1) (get_or u.waiting (j - 1) [] ++ get_or u.waiting (i - 1) []) [] (λ q. d (omega (arith, h.low, k.low))) ∙ e))
      (λ c. inr e) (inr e)

  idle_stays : (k : ℕ) → IsStream k → Idle k u → Idle k (moved i u)
  unfolding Idle behind_stream
  idle_stays k l d = ⊎_elim (λ c. inl (moved_current i u ∙ c)) stays d
    where
      stays : get_or u.waiting (k - 1) [] ≡ [] → ((moved i u).current ≡ pos k) ⊎ (get_or (moved i u).waiting (k - 1) [] ≡ [])
      stays e =
          let g : get_or (set u.waiting (i - 1) []) (k - 1) [] ≡ [] = still_empty u.waiting (i - 1) (k - 1) e in
          moved_any (λ (x : Streams). (x.current ≡ pos k) ⊎ (get_or x.waiting (k - 1) [] ≡ [])) i h u (λ c. inr e) (λ j c m n. to j c m g (ℕ_discrete k j)) (λ c. inr g) (inr g)
        where
          to : (j : ℕ) → u.current ≡ pos j → IsStream j → get_or (set u.waiting (i - 1) []) (k - 1) [] ≡ [] → Dec (k ≡ j)
              → (u.current ≡ pos k) ⊎ (get_or (set (set u.waiting (i - 1) []) (j - 1) (get_or u.waiting (j - 1) [] ++ get_or u.waiting (i - 1) [])) (k - 1) [] ≡ [])
          to j c m g (yes q) = inl (c ∙ ap pos (sym q))
          to j c m g (no q) =
              inr (get_or-set_other (set u.waiting (i - 1) []) (j - 1) (k - 1) (get_or u.waiting (j - 1) [] ++ get_or u.waiting (i - 1) []) [] (λ o. q (omega (arith, l.low, m.low))) ∙ g)

-- ---- the streams that are marked

pub none_seen : (u : Streams) (seen : List ℕ) → seen ≡ replicate 10 0 → Seen seen u
none_seen u seen e =
    record {
      ten = ap length e ∙ length-replicate {A = ℕ} 10 0;
      idle = λ i h f. absurd (f (ap (λ (l : List ℕ). get_or l i 0) e ∙ get_or-replicate 10 i 0 0 (omega (arith, h.high))));
    }

module _ {seen : List ℕ} {u : Streams} (s : Seen seen u) (i : ℕ) (h : IsStream i) where
  -- a marked one moves nothing
  seen_same : (get_or seen i 0 ≡ 0 → ⊥) → moved i u ≡ u
  seen_same f = idle_same i h u (s.idle i h f)

  pub seen_more : length u.waiting ≡ 9 → Seen (set seen i 1) (moved i u)
  seen_more n = record { ten = length-set seen i 1 ∙ s.ten; idle = λ k l f. go k l f (ℕ_discrete k i) }
    where
      go : (k : ℕ) → IsStream k → (get_or (set seen i 1) k 0 ≡ 0 → ⊥) → Dec (k ≡ i) → Idle k (moved i u)
      go k l f (yes q) = subst (λ (j : ℕ). Idle j (moved i u)) (sym q) (idle_after i h u n)
      go k l f (no q) = idle_stays i h u k l (s.idle k l (λ z. f (get_or-set_other seen i k 1 0 q ∙ z)))

-- ---- a move in the buffers

-- w is written behind a text
written_more :
    {output : Bytes} {at : ℕ} {t : Bytes} → Front output at t → (w v : Bytes) (n : ℕ) → w ≡ v → length w ≡ n → n ≤ length output - at
    → Front (put_mid at (at + n - at) output w) (at + n) (t ++ v) × (length (put_mid at (at + n - at) output w) ≡ length output)
written_more {output} {at} {t} h w v n e l r =
    let after = put_mid at (at + n - at) output w in
    let f : Filled output at w after = part_fills output w at (at + n) (omega arith) (omega (arith, h.inside)) in (
      subst₂ (λ (j : ℕ) (y : Bytes). Front after (at + j) (t ++ y)) l e (front_more h f),
      filled_long f,
    )

module _ {streams : Bytes} {owners : List ℕ} {output : Bytes} {k : Sinks} {u : Streams} (m : SinksIn streams owners output k u) (i : ℕ) (h : IsStream i) where
  -- to the output
  module _ (e : k.current ≡ pos 0) where
    pub out_long : length (moved i u).output ≡ k.output + owned_count i (take k.waiting owners)
    out_long = rw (moved_out i h u (m.current ∙ e)) (omega (arith, length-append u.output (get_or u.waiting (i - 1) []), length_of_lem m.waiting i h, front_long m.written))

    pub out_moves :
        {streams' : Bytes} {owners' : List ℕ} {kept : ℕ} (n : ℕ) → n ≡ owned_count i (take k.waiting owners) → (w : Bytes)
        → w ≡ owned_by i (take k.waiting owners) (take k.waiting streams) → k.output + n ≤ length output → StreamsIn streams' owners' kept (set u.waiting (i - 1) [])
        → SinksIn streams' owners' (put_mid k.output (k.output + n - k.output) output w) (record { current = k.current; waiting = kept; output = k.output + n }) (moved i u)
    out_moves {streams'} {owners'} {kept} n en w ew l g =
        let e-text : w ≡ get_or u.waiting (i - 1) [] = ew ∙ sym (text_of m.waiting i h) in
        let e-long : length w ≡ n = ap length e-text ∙ length_of_lem m.waiting i h ∙ sym en in
        let after = put_mid k.output (k.output + n - k.output) output w in
        subst (λ (x : Streams). SinksIn streams' owners' after (record { current = k.current; waiting = kept; output = k.output + n }) x) (sym (moved_out i h u (m.current ∙ e)))
        (record {
          waiting = g;
          written = (written_more m.written w (get_or u.waiting (i - 1) []) n e-text e-long (omega arith)).0;
          current = m.current;
        })

  -- nowhere
  pub lost_moves :
      {streams' : Bytes} {owners' : List ℕ} {kept : ℕ} → discards k.current ≡ true → StreamsIn streams' owners' kept (set u.waiting (i - 1) [])
      → SinksIn streams' owners' output (record { current = k.current; waiting = kept; output = k.output }) (moved i u)
  lost_moves {streams'} {owners'} {kept} l g =
      subst (λ (x : Streams). SinksIn streams' owners' output (record { current = k.current; waiting = kept; output = k.output }) x)
      (sym (moved_lost i h u (ap discards m.current ∙ l))) (record { waiting = g; written = m.written; current = m.current })

  -- behind the current stream, which is another or the same
  module _ {j : ℕ} (w : Waits k.current j) where
    pub stream_moves :
        {streams' : Bytes} {owners' : List ℕ} → (i ≡ j → ⊥)
        → (IsStream i → IsStream j → (i ≡ j → ⊥) → StreamsIn streams' owners' k.waiting (behind_stream i j u.waiting))
        → SinksIn streams' owners' output k (moved i u)
    stream_moves {streams'} {owners'} d g =
        subst (λ (x : Streams). SinksIn streams' owners' output k x) (sym (moved_to i h u j (m.current ∙ w.is) w.stream d))
        (record { waiting = g h w.stream d; written = m.written; current = m.current })

    pub same_moves : i ≡ j → SinksIn streams owners output k (moved i u)
    same_moves d =
        subst (λ (x : Streams). SinksIn streams owners output k x) (sym (moved_same i u (m.current ∙ w.is ∙ ap pos (sym d)))) m

-- a stream that was moved before
pub seen_moves :
    {streams : Bytes} {owners : List ℕ} {output : Bytes} {k : Sinks} {u : Streams} {seen : List ℕ} → SinksIn streams owners output k u → Seen seen u → (i : ℕ) → IsStream i
    → (get_or seen i 0 ≡ 0 → ⊥) → SinksIn streams owners output k (moved i u) × Seen seen (moved i u)
seen_moves {seen = seen} m s i h f = let e = seen_same s i h f in (rw e m, rw e s)

-- ---- moves in turn: what those before j made of u

pub record Turning (streams : Bytes) (owners : List ℕ) (output : Bytes) (k : Sinks) (seen ns : List ℕ) (j : ℕ) (u : Streams) : Type 0 where
  pub held : Streams
  pub are : SinksIn streams owners output k held
  pub marked : Seen seen held
  pub left : moved_in_turn (drop j ns) held ≡ moved_in_turn ns u

pub turning_begins :
    {streams : Bytes} {owners : List ℕ} {output : Bytes} {k : Sinks} {u : Streams} (seen ns : List ℕ) → SinksIn streams owners output k u → seen ≡ replicate 10 0
    → Turning streams owners output k seen ns 0 u
turning_begins {u = u} seen ns m e = record { held = u; are = m; marked = none_seen u seen e; left = refl }

module _ {streams : Bytes} {owners : List ℕ} {output : Bytes} {k : Sinks} {seen ns : List ℕ} {j : ℕ} {u : Streams} (t : Turning streams owners output k seen ns j u) where
  pub turning_ends : length ns ≤ j → SinksIn streams owners output k (moved_in_turn ns u)
  turning_ends h = subst (λ (x : Streams). SinksIn streams owners output k x) (turns_end ns j t.held (moved_in_turn ns u) t.left h) t.are

  module _ (h : j < length ns) (i : ℕ) (e : i ≡ get_or ns j 0) where
    then_left : moved_in_turn (drop (j + 1) ns) (moved i t.held) ≡ moved_in_turn ns u
    then_left = turn_on ns j t.held (moved_in_turn ns u) t.left h i e

    pub turning_on :
        {streams' : Bytes} {owners' : List ℕ} {output' : Bytes} {seen' : List ℕ} {r : Sinks}
        → SinksIn streams' owners' output' r (moved i t.held) × Seen seen' (moved i t.held) → Turning streams' owners' output' r seen' ns (j + 1) u
    turning_on g = record { held = moved i t.held; are = g.0; marked = g.1; left = then_left }

    -- where all moves fit this one does, since later ones only lengthen the output
    pub turning_fits : ((k : ℕ) → k < length ns → IsStream (get_or ns k 0)) → {n : ℕ} → length (moved_in_turn ns u).output ≤ n → length (moved i t.held).output ≤ n
    turning_fits each l =
        omega (
          arith,
          ap (λ (x : Streams). length x.output) then_left,
          (turns_sum (drop (j + 1) ns) (λ n o. subst IsStream (sym (get_or-drop (j + 1) ns n 0)) (each (j + 1 + n) (omega (arith, length-drop (j + 1) ns)))) (moved i t.held)
              (moved_nine i (subst IsStream (sym e) (each j h)) t.held t.are.waiting.nine)).0,
        )

-- ---- divert

module _ (args : List Bytes) (s : State) where
  divert_none : number_or (pos 0) 1 args ≡ None → call_divert args s ≡ refused no_number
  unfolding call_divert
  divert_none e = rw (e, call_divert)

  divert_some : (z : ℤ) → number_or (pos 0) 1 args ≡ Some z → call_divert args s ≡ next (with_streams (diverted z s.streams) s)
  unfolding call_divert changing changed_in_turn changed
  divert_some z e = rw (e, call_divert)

module _ {a : Setting} {b : Memory} {m : Machine} {s : State} (r : Represents a b m s) (args : List Bytes) where
  pub divert_unread : number_or (pos 0) 1 args ≡ None → Refines a b (call_divert args s) b (stepped (progress.Refused answer.Number) m)
  unfolding fault_answer
  divert_unread e = stepped_refused no_number (divert_none args s e) refl

  pub divert_read :
      (z : ℤ) → number_or (pos 0) 1 args ≡ Some z
      → Refines a b (call_divert args s) b (stepped progress.On (sinks_set (record { current = z; waiting = m.sinks.waiting; output = m.sinks.output }) m))
  unfolding diverted
  divert_read z e =
      stepped_on
      (with_sinks r
      (record {
        waiting = r.sinks.waiting;
        written = r.sinks.written;
        current = refl;
      })
      refl refl refl)
      (divert_some args s z e) refl

-- ---- undivert

module _ (args : List Bytes) (s : State) where
  undivert_none : all_named args ≡ false → call_undivert args s ≡ refused no_number
  unfolding call_undivert
  undivert_none e = rw (undivert_unnamed args e, call_undivert)

  undivert_some : all_named args ≡ true → call_undivert args s ≡ next (with_streams (moved_in_turn (turns args) s.streams) s)
  unfolding call_undivert changing
  undivert_some e = rw (undivert_named args e, call_undivert) (ap (λ (u : Streams). next (with_streams u s)) (moves_in_turn (turns args) s.streams))

module _ {a : Setting} {b : Memory} {m : Machine} {s : State} (r : Represents a b m s) (args : List Bytes) where
  pub undivert_bad : all_named args ≡ false → Refines a b (call_undivert args s) b (stepped (progress.Refused answer.Number) m)
  unfolding fault_answer
  undivert_bad e = stepped_refused no_number (undivert_none args s e) refl

  module _ (e : all_named args ≡ true) where
    pub undivert_full : leb (length (moved_in_turn (turns args) s.streams).output) (length b.output) ≡ false → Refines a b (call_undivert args s) b (stepped (progress.Refused (answer.Room 7)) m)
    unfolding with_source
    undivert_full l =
        let w = turns_sum (turns args) (turn_each args e) s.streams r.sinks.waiting.nine in
        rw (undivert_some args s e)
        (refines_room (with_streams (moved_in_turn (turns args) s.streams) s) 6
        (output_over r s.source (pending_fits r) (moved_in_turn (turns args) s.streams) (omega (arith, w.0, w.1, streams_fit r)) (omega (arith, leb-false (length (moved_in_turn (turns args) s.streams).output) (length b.output) l, r.limits.output))))

    pub undivert_on :
        {streams' : Bytes} {owners' : List ℕ} {output' : Bytes} {k : Sinks} → SinksIn streams' owners' output' k (moved_in_turn (turns args) s.streams)
        → length streams' ≡ length b.streams → length owners' ≡ length b.owners → length output' ≡ length b.output
        → Refines a b (call_undivert args s) (sinks_at streams' owners' output' b) (stepped progress.On (sinks_set k m))
    undivert_on g e-streams e-owners e-output = rw (undivert_some args s e) (refines_next (with_sinks r g e-streams e-owners e-output))

-- ---- the end

module _ {a : Setting} {b : Memory} {m : Machine} {s : State} (r : Represents a b m s) where
  finished_long : length (finished_streams s.streams).output ≡ m.sinks.output + m.sinks.waiting
  unfolding finished_streams
  finished_long =
      omega (arith, length-append s.streams.output (joined s.streams.waiting), front_long r.sinks.written, joined_total s.streams.waiting, used_is r.sinks.waiting)

  pub finish_full : length b.output - m.sinks.output < m.sinks.waiting → Refines a b (stop done (with_streams (finished_streams s.streams) s)) b (stepped (progress.Refused (answer.Room 7)) m)
  unfolding finished_streams total_length with_source
  finish_full h =
      refines_stop_room done (with_streams (finished_streams s.streams) s) 6
      (output_over r s.source (pending_fits r) (finished_streams s.streams) (omega arith) (omega (arith, finished_long, r.sinks.written.inside, r.limits.output)))

  pub finish_ends :
      (w : Bytes) → w ≡ joined s.streams.waiting → m.sinks.waiting ≤ length b.output - m.sinks.output
      → Refines a b (stop done (with_streams (finished_streams s.streams) s))
      (sinks_at b.streams b.owners (put_mid m.sinks.output (m.sinks.output + m.sinks.waiting - m.sinks.output) b.output w) b)
      (stepped (progress.Ended answer.Done) (sinks_set (record { current = m.sinks.current; waiting = 0; output = m.sinks.output + m.sinks.waiting }) m))
  unfolding finished_streams ending_answer
  finish_ends w e h =
      let l : length w ≡ m.sinks.waiting = ap length e ∙ joined_total s.streams.waiting ∙ used_is r.sinks.waiting in
      let f = written_more r.sinks.written w (joined s.streams.waiting) m.sinks.waiting e l h in
      refines_stop done (with_sinks r (record { waiting = none_held b.streams b.owners; written = f.0; current = r.sinks.current }) refl refl f.1)

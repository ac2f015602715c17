-- Laws of the output and the streams: what fits, and what placing bytes leaves.
use Rattle.rules.proofs.Base.{◌≤◌, ◌+◌, ℕ, ◌-◌, ◌<◌, suc, zero, ◌∙◌, refl, sym, ap, ◌≡◌, subst, true, Bool, false, Some, None, none-some, List, arith, ltb, pos, ℤ, negsuc, nat_abs, length, drop, take, length-drop, length-take, replicate, ne_eqb, ltb-true, ltb-false, lt-ltb, le-ltb}
use Rattle.std.proofs.Common.{◌<ℤ◌, w32, to_z, of_z}
use Rattle.std.proofs.lemmas.Int.{ints, to_z_pos}
use Rattle.std.specs.Bool.{then_some}
use Rattle.rules.specs.Bytes.{Bytes}
use Rattle.rules.specs.Streams.{Streams, placed, is_current, discards}
use Rattle.rules.proofs.StreamLaws.{placed_lost}
use Rattle.expander.specs.declared.sinks.Sinks.{Sinks}
use Rattle.expander.specs.Streams.{IsStream}
use Rattle.expander.specs.Sinks.{SinksIn, Fits, full_buffer}
use Rattle.expander.specs.Filled.{Filled}
use Rattle.expander.proofs.FilledLaws.{front_more}
use Rattle.expander.proofs.Waiting.{appended_at}
use Rattle.expander.proofs.StreamMoves.{placed_to, placed_out}

-- ---- the current stream: the output, one of streams 1 to 9, or nowhere

-- one of streams 1 to 9
pub record Waits (c : ℤ) (i : ℕ) : Type 0 where
  pub is : c ≡ pos i
  pub stream : IsStream i

-- as the code asks for it, and casts it to a byte
pub waits : (c : ℤ) → pos 0 <ℤ c → c <ℤ pos 10 → Waits c (nat_abs (to_z w32 (of_z w32 c)))
waits (pos i) l h = rw (to_z_pos w32 i (omega (arith, ints))) (record { is = refl; stream = record { low = omega (arith, ints); high = omega (arith, ints) } })
waits (negsuc n) l h = absurd (omega (arith, ints))

-- nowhere, as the code asks for it
pub below_lost : (c : ℤ) → c <ℤ pos 0 → discards c ≡ true
unfolding discards
below_lost (pos n) h = absurd (omega (arith, ints))
below_lost (negsuc n) h = refl

pub above_lost : (c : ℤ) → pos 9 <ℤ c → discards c ≡ true
unfolding discards
above_lost (pos n) h = lt-ltb 9 n (omega (arith, ints))
above_lost (negsuc n) h = refl

-- which of the three
pub data Current (c : ℤ) : Type 0 where
  goes_out : c ≡ pos 0 → Current c
  goes_behind : (i : ℕ) → Waits c i → Current c
  goes_lost : discards c ≡ true → Current c

pub current_is : (c : ℤ) → Current c
unfolding discards
current_is (pos zero) = goes_out refl
current_is (pos (suc i)) = go (ltb 9 (suc i)) refl
  where
    go : (t : Bool) → ltb 9 (suc i) ≡ t → Current (pos (suc i))
    go true e = goes_lost e
    go false e = goes_behind (suc i) (record { is = refl; stream = record { low = omega arith; high = ltb-false 9 (suc i) e } })
current_is (negsuc n) = goes_lost refl

-- ---- which buffer is full

lost_not_out : (c : ℤ) → discards c ≡ true → is_current 0 c ≡ false
unfolding is_current discards
lost_not_out (pos n) e = ne_eqb 0 n (λ q. omega (arith, ltb-true 9 n e))
lost_not_out (negsuc n) e = refl

module _ (c : ℤ) (n s o : ℕ) where
  -- as the code asks it
  pub full_to_output : c ≡ pos 0 → then_some (ltb o n) 7 ≡ full_buffer c n s o
  unfolding full_buffer is_current
  full_to_output e = rw e refl

  pub full_to_stream : (i : ℕ) → Waits c i → then_some (ltb s n) 4 ≡ full_buffer c n s o
  unfolding full_buffer is_current discards
  full_to_stream i w = rw (w.is, ne_eqb 0 i (λ q. omega (arith, w.stream.low)), le-ltb 9 i w.stream.high) refl

  pub free_lost : discards c ≡ true → None ≡ full_buffer c n s o
  unfolding full_buffer
  free_lost e = rw (lost_not_out c e, e)

  pub full_output : c ≡ pos 0 → o < n → Some 7 ≡ full_buffer c n s o
  full_output e h = rw (lt-ltb o n h, then_some) at full_to_output e

  pub free_output : c ≡ pos 0 → n ≤ o → None ≡ full_buffer c n s o
  free_output e h = rw (le-ltb o n h, then_some) at full_to_output e

  module _ {i : ℕ} (w : Waits c i) where
    pub full_stream : s < n → Some 4 ≡ full_buffer c n s o
    full_stream l = rw (lt-ltb s n l, then_some) at full_to_stream i w

    pub free_stream : n ≤ s → None ≡ full_buffer c n s o
    free_stream l = rw (le-ltb s n l, then_some) at full_to_stream i w

  -- nothing is full: the room is there
  pub output_room : full_buffer c n s o ≡ None → c ≡ pos 0 → n ≤ o
  output_room f e = go (ltb o n) refl
    where
      go : (t : Bool) → ltb o n ≡ t → n ≤ o
      go true q = absurd (none-some 7 (sym (full_output e (ltb-true o n q) ∙ f)))
      go false q = ltb-false o n q

  pub stream_room : full_buffer c n s o ≡ None → {i : ℕ} → Waits c i → n ≤ s
  stream_room f w = go (ltb s n) refl
    where
      go : (t : Bool) → ltb s n ≡ t → n ≤ s
      go true q = absurd (none-some 4 (sym (full_stream w (ltb-true s n q) ∙ f)))
      go false q = ltb-false s n q

module _ {streams : Bytes} {owners : List ℕ} {output : Bytes} {k : Sinks} {n : ℕ} (f : Fits streams owners output k n) where
  pub fits_output : k.current ≡ pos 0 → k.output + n ≤ length output
  fits_output e = omega (arith, output_room k.current n (length streams - k.waiting) (length output - k.output) f.none_full e, f.output_in)

  pub fits_stream : {i : ℕ} → Waits k.current i → k.waiting + n ≤ length streams
  fits_stream w = omega (arith, stream_room k.current n (length streams - k.waiting) (length output - k.output) f.none_full w, f.waiting_in_lem)

-- ---- what placing leaves

module _ {streams : Bytes} {owners : List ℕ} {output : Bytes} {k : Sinks} {x : Streams} (m : SinksIn streams owners output k x) (w : Bytes) (n : ℕ) (en : length w ≡ n) where
  pub emitted_output :
      {after : Bytes} → k.current ≡ pos 0 → Filled output k.output w after
      → SinksIn streams owners after (record { current = k.current; waiting = k.waiting; output = k.output + n }) (placed x.current w x)
  emitted_output {after} e f =
      subst (λ (y : Streams). SinksIn streams owners after (record { current = k.current; waiting = k.waiting; output = k.output + n }) y)
      (sym (ap (λ (z : ℤ). placed z w x) (m.current ∙ e) ∙ placed_out w x))
      (record {
        waiting = m.waiting;
        written = rw (sym en) (front_more m.written f);
        current = m.current;
      })

  pub emitted_stream :
      {after : Bytes} {owned : List ℕ} {i : ℕ} → Waits k.current i → Filled streams k.waiting w after → Filled owners k.waiting (replicate n i) owned
      → SinksIn after owned output (record { current = k.current; waiting = k.waiting + n; output = k.output }) (placed x.current w x)
  emitted_stream {after} {owned} {i} h f g =
      subst (λ (y : Streams). SinksIn after owned output (record { current = k.current; waiting = k.waiting + n; output = k.output }) y)
      (sym (ap (λ (z : ℤ). placed z w x) (m.current ∙ h.is) ∙ placed_to i h.stream w x))
      (record {
        waiting = rw (sym en) (appended_at m.waiting i h.stream f (rw (sym en) at g));
        written = m.written;
        current = m.current;
      })

  pub emitted_lost : discards k.current ≡ true → SinksIn streams owners output k (placed x.current w x)
  emitted_lost h = rw (placed_lost x.current (ap discards m.current ∙ h) w x) m

-- n bytes ahead, from a place on, are n
pub ahead_taken : (t : Bytes) (start n : ℕ) → start + n ≤ length t → length (take n (drop start t)) ≡ n
ahead_taken t start n h = omega (arith, length-take n (drop start t), length-drop start t)

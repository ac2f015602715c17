-- Laws of the book's moves between streams, in the terms of the buffer's. Assumes nothing.
use Rattle.rules.proofs.Base.{◌≤◌, ◌+◌, ℕ, ◌-◌, ◌<◌, suc, zero, ◌∙◌, refl, sym, ap, ◌≡◌, ap₂, true, false, List, [], ◌++◌, add-one, arith, pos, ℤ, negsuc, length, drop, get_or, set, drop_of_length-le, drop-cons, eq-eqb, ne_eqb, le-leb, ltb-true}
use Rattle.rules.specs.Bytes.{Bytes}
use Rattle.rules.specs.Streams.{Streams, waiting_in, discards, placed, is_current, emptied, moved, moved_in_turn}
use Rattle.rules.proofs.StreamLaws.{placed_lost}
use Rattle.expander.specs.Streams.{IsStream, extended, behind_stream}
use Rattle.expander.proofs.Waiting.{taken_behind}

less_one : (i : ℕ) → suc i - 1 ≡ i
less_one i = omega arith

-- bytes placed: behind a stream, in the output, nowhere
pub placed_to : (j : ℕ) → IsStream j → (w : Bytes) (s : Streams) → placed (pos j) w s ≡ record { output = s.output; waiting = extended j w s.waiting; current = s.current }
unfolding placed extended
placed_to zero h w s = absurd (omega arith)
placed_to (suc j) h w s = rw (le-leb (suc j) 9 h.high, placed, less_one j)

pub placed_out : (w : Bytes) (s : Streams) → placed (pos 0) w s ≡ record { output = s.output ++ w; waiting = s.waiting; current = s.current }
unfolding placed
placed_out w s = refl

-- a stream's text, and the streams without it
pub waiting_is : (i : ℕ) → IsStream i → (s : Streams) → waiting_in i s ≡ get_or s.waiting (i - 1) []
unfolding waiting_in
waiting_is zero h s = absurd (omega arith)
waiting_is (suc i) h s = rw (less_one i)

pub emptied_is : (i : ℕ) → IsStream i → (s : Streams) → emptied i s ≡ record { output = s.output; waiting = set s.waiting (i - 1) []; current = s.current }
unfolding emptied
emptied_is zero h s = absurd (omega arith)
emptied_is (suc i) h s = rw (less_one i)

-- a move: the current stream is skipped; another goes behind the current one, to the output, or is lost
is_current_lem : (i : ℕ) (c : ℤ) → c ≡ pos i → is_current i c ≡ true
unfolding is_current
is_current_lem i c e = ap (is_current i) e ∙ eq-eqb i i refl

not_current : (i j : ℕ) (c : ℤ) → c ≡ pos j → (i ≡ j → ⊥) → is_current i c ≡ false
unfolding is_current
not_current i j c e d = ap (is_current i) e ∙ ne_eqb i j d

lost_not_current : (i : ℕ) (c : ℤ) → IsStream i → discards c ≡ true → is_current i c ≡ false
unfolding is_current discards
lost_not_current i (pos n) h e = ne_eqb i n (λ q. omega (arith, ltb-true 9 n e, h.high))
lost_not_current i (negsuc n) h e = refl

pub moved_same : (i : ℕ) (s : Streams) → s.current ≡ pos i → moved i s ≡ s
unfolding moved
moved_same i s e = rw (is_current_lem i s.current e, moved)

module _ (i : ℕ) (h : IsStream i) (s : Streams) where
  moved_other : is_current i s.current ≡ false
      → moved i s ≡ placed s.current (get_or s.waiting (i - 1) []) (record { output = s.output; waiting = set s.waiting (i - 1) []; current = s.current })
  unfolding moved
  moved_other e = rw (e, moved) (ap₂ (placed s.current) (waiting_is i h s) (emptied_is i h s))

  pub moved_to : (j : ℕ) → s.current ≡ pos j → IsStream j → (i ≡ j → ⊥) → moved i s ≡ record { output = s.output; waiting = behind_stream i j s.waiting; current = s.current }
  moved_to j e k d =
      let w = get_or s.waiting (i - 1) [] in
      let t : Streams = record { output = s.output; waiting = set s.waiting (i - 1) []; current = s.current } in
      moved_other (not_current i j s.current e d)
      ∙ ap (λ (c : ℤ). placed c w t) e
      ∙ placed_to j k w t
      ∙ ap {B = Streams} (λ (ws : List Bytes). record { output = s.output; waiting = ws; current = s.current }) (taken_behind s.waiting i j w h k d refl)

  pub moved_out : s.current ≡ pos 0 → moved i s ≡ record { output = s.output ++ get_or s.waiting (i - 1) []; waiting = set s.waiting (i - 1) []; current = s.current }
  moved_out e =
      let w = get_or s.waiting (i - 1) [] in
      let t : Streams = record { output = s.output; waiting = set s.waiting (i - 1) []; current = s.current } in
      moved_other (not_current i 0 s.current e (λ q. omega (arith, h.low))) ∙ ap (λ (c : ℤ). placed c w t) e ∙ placed_out w t

  pub moved_lost : discards s.current ≡ true → moved i s ≡ record { output = s.output; waiting = set s.waiting (i - 1) []; current = s.current }
  moved_lost e = moved_other (lost_not_current i s.current h e) ∙ placed_lost s.current e (get_or s.waiting (i - 1) []) (record { output = s.output; waiting = set s.waiting (i - 1) []; current = s.current })

-- moves in turn: t is what those before k made, and w what all of them make
module _ (ns : List ℕ) (k : ℕ) (t w : Streams) (e : moved_in_turn (drop k ns) t ≡ w) where
  pub turn_on : k < length ns → (i : ℕ) → i ≡ get_or ns k 0 → moved_in_turn (drop (k + 1) ns) (moved i t) ≡ w
  unfolding moved_in_turn
  turn_on h i q = rw (q, add-one k) (ap (λ (l : List ℕ). moved_in_turn l t) (sym (drop-cons ns k 0 h)) ∙ e)

  pub turns_end : length ns ≤ k → t ≡ w
  unfolding moved_in_turn
  turns_end h = ap (λ (l : List ℕ). moved_in_turn l t) (sym (drop_of_length-le ns h)) ∙ e

-- What is kept along every history that does not end, from the first step on.
use Rattle.rules.proofs.Base.{◌≤◌, ◌<◌, ℕ, suc, zero, ◌∙◌, refl, sym, ap, ◌≡◌, true, Bool, false, true≢false, ◌&&◌, not, List, [], ◌∷◌, arith, eqb, leb, pos, ℤ, negsuc, get_or, replicate, List·getD-eq-default, get_or-replicate, eqb-true, leb-true, dec_le, dec_lt}
use Rattle.rules.specs.Bytes.{Bytes}
use Rattle.rules.specs.Streams.{Streams, empty_streams, discards, is_current, Change, places, moves, finishes, drops, diverts, changed, changed_in_turn}
use Rattle.rules.specs.Changes.{is_working, all_working}
use Rattle.rules.specs.History.{Tally, tallied, first_tally, numbered_change, numbered_from, is_waiting, takes, route_after, route_from, stands_in, occurrences}
use Rattle.rules.proofs.StreamLaws.{stream_in, one_of_ten, moved_skips, moved_no_stream}
use Rattle.rules.proofs.Numbering.{tally_after}
use Rattle.rules.proofs.Routes.{Routes, Kept, and_false, keeps_diverted}
use Rattle.rules.proofs.RoutesPlaced.{keeps_discarded, keeps_placed}
use Rattle.rules.proofs.RoutesMoved.{keeps_unmoved, keeps_moved}

module _ {t : Tally} {u : Streams} {r : Routes} (kept : Kept t u r) where
  -- what is kept along one change
  abbrev Keeps : Change → Type 0
  Keeps x = Kept (tallied x t) (changed (numbered_change x t) u) (λ k. route_after k x t (r k))

  places_keep : (w : Bytes) → Keeps (places w)
  places_keep w = go (discards t.current) refl
    where
      go : (b : Bool) → discards t.current ≡ b → Keeps (places w)
      go true e = keeps_discarded w kept e
      go false e = let m = one_of_ten t.current e in keeps_placed w kept m.0 m.2 m.1

  no_stream_taken : (n : ℕ) → (1 ≤ n → n ≤ 9 → ⊥) → (p : ℤ) → takes (moves n) t.current p ≡ false
  unfolding takes is_waiting is_current
  no_stream_taken n d (negsuc m) = refl
  no_stream_taken n d (pos m) = go (leb 1 m) refl (leb m 9) refl (eqb n m) refl
    where
      go : (a : Bool) → leb 1 m ≡ a → (b : Bool) → leb m 9 ≡ b → (c : Bool) → eqb n m ≡ c → (a && b) && (c && not (is_current n t.current)) ≡ false
      go true e true f true g = absurd (d (omega (arith, leb-true 1 m e, eqb-true n m g)) (omega (arith, leb-true m 9 f, eqb-true n m g)))
      go true e true f false g = refl
      go true e false f c g = refl
      go false e b f c g = refl

  moves_keep : (n : ℕ) → Keeps (moves n)
  unfolding takes
  moves_keep n = go (is_current n t.current) refl (dec_le 1 n) (dec_le n 9)
    where
      not_moved : is_current n t.current ≡ true → (p : ℤ) → takes (moves n) t.current p ≡ false
      not_moved e p = rw (e, and_false (is_current n p), and_false (is_waiting p))

      no_stream : (1 ≤ n → n ≤ 9 → ⊥) → Keeps (moves n)
      no_stream d = keeps_unmoved n kept (moved_no_stream u n kept.nine d) (no_stream_taken n d)

      go : (b : Bool) → is_current n t.current ≡ b → Dec (1 ≤ n) → Dec (n ≤ 9) → Keeps (moves n)
      go true e l h = keeps_unmoved n kept (moved_skips u n (ap (is_current n) kept.current ∙ e)) (not_moved e)
      go false e (yes l) (yes h) = keeps_moved n kept l h e
      go false e (yes l) (no h) = no_stream (λ a b. h b)
      go false e (no l) h = no_stream (λ a b. l a)

  change_keeps : (x : Change) → is_working x ≡ true → Keeps x
  unfolding is_working
  change_keeps (places w) e = places_keep w
  change_keeps (moves n) e = moves_keep n
  change_keeps finishes e = absurd (true≢false (sym e))
  change_keeps drops e = absurd (true≢false (sym e))
  change_keeps (diverts n) e = keeps_diverted n kept

-- the numbered streams and the routes after a history
abbrev pub streams_after : Tally → Streams → List Change → Streams
streams_after t u xs = changed_in_turn (numbered_from t xs) u

abbrev pub KeptAfter : Tally → Streams → Routes → List Change → Type 0
KeptAfter t u r xs = Kept (tally_after t xs) (streams_after t u xs) (λ k. route_from k t (r k) xs)

pub along : (xs : List Change) (t : Tally) (u : Streams) (r : Routes) → all_working xs ≡ true → Kept t u r → KeptAfter t u r xs
unfolding all_working tally_after changed_in_turn numbered_from route_from
along [] t u r e kept = kept
along (x ∷ xs) t u r e kept = go (is_working x) refl e (λ h k. along xs (tallied x t) (changed (numbered_change x t) u) (λ k. route_after k x t (r k)) h k)
  where
    go : (b : Bool) → is_working x ≡ b → b && all_working xs ≡ true → (all_working xs ≡ true → Keeps kept x → KeptAfter t u r (x ∷ xs)) → KeptAfter t u r (x ∷ xs)
    go true q h f = f h (change_keeps kept x q)
    go false q h f = absurd (true≢false (sym h))

-- before the first step no number is given
empty_stream : (n : ℕ) → stream_in n empty_streams ≡ []
unfolding stream_in empty_streams
empty_stream zero = refl
empty_stream (suc i) = go (dec_lt i 9)
  where
    go : Dec (i < 9) → get_or {A = Bytes} (replicate 9 []) i [] ≡ []
    go (yes l) = get_or-replicate 9 i [] [] l
    go (no l) = List·getD-eq-default (replicate 9 []) [] {n = i} (omega arith)

pub at_first : Kept first_tally empty_streams (λ k. [])
unfolding first_tally empty_streams stands_in occurrences
at_first =
    record {
      nine = refl;
      current = refl;
      counts = λ n k l. rw (empty_stream n);
      fresh = λ k l. refl;
      placed = λ k l. absurd (omega arith);
      ahead = λ j k p ps d e. absurd (d refl);
      order = λ n l. rw (empty_stream n) tt;
    }

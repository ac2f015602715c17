-- The routes where a change places bytes. Assumes nothing.
use Rattle.rules.proofs.Base.{◌≤◌, ◌<◌, ◌+◌, ℕ, ◌∙◌, refl, sym, ap, ◌≡◌, subst, true, cond, List, [], ◌++◌, ◌∷◌, add-zero, arith, pos, ℤ, length, eq-eqb, ne_eqb, le-leb, lt-ltb, le-ltb, ℕ_discrete, dec_lt}
use Rattle.rules.specs.Bytes.{Bytes}
use Rattle.rules.specs.Streams.{Streams, discards, is_current, placed, places, changed}
use Rattle.rules.specs.History.{first_placed, current_after, Tally, tallied, counting_from, numbered_change, takes, gives, route_after, stands_in, occurrences}
use Rattle.rules.proofs.StreamLaws.{stream_in, placed_lost, placed_same, placed_other, placed_current, placed_nine}
use Rattle.rules.proofs.Numbering.{placed_whole, placed_nowhere}
use Rattle.rules.proofs.Occurrences.{occurrences-append, counting_below, counting_above, counting_once, All, all_are, all_counting, Ordered, ordered_append, ordered_are, ordered_counting}
use Rattle.rules.proofs.Routes.{Routes, Before, Kept, same_streams, members, stands_somewhere, route_still, empty_behind}

module _ (w : Bytes) {t : Tally} {u : Streams} {r : Routes} (kept : Kept t u r) where
  routes_placed : Routes
  routes_placed k = route_after k (places w) t (r k)

  -- in a stream that discards
  pub keeps_discarded : discards t.current ≡ true → Kept (tallied (places w) t) (changed (numbered_change (places w) t) u) (λ k. route_after k (places w) t (r k))
  unfolding tallied current_after changed numbered_change routes_placed takes
  keeps_discarded e =
      same_streams kept (tallied (places w) t) (changed (numbered_change (places w) t) u) routes_placed (rw (placed_nowhere w t.current e) (add-zero t.given))
      (ap (λ (z : Streams). length z.waiting) same ∙ kept.nine) (ap (λ (z : Streams). z.current) same ∙ kept.current) (λ n. ap (stream_in n) same)
      (λ i k. route_still k (places w) t (r k) (placed_nowhere w t.current e) (λ p. refl) i)
    where
      same : placed u.current (counting_from t.given (length (first_placed (places w) t.current))) u ≡ u
      same = placed_lost u.current (ap discards kept.current ∙ e) _ u

  -- in stream m
  module _ (m : ℕ) (l : m ≤ 9) (c : t.current ≡ pos m) where
    new : List ℕ
    new = counting_from t.given (length w)

    whole : first_placed (places w) t.current ≡ w
    unfolding discards
    whole = placed_whole w t.current (ap discards c ∙ le-ltb 9 m l)

    given_then : (tallied (places w) t).given ≡ t.given + length w
    unfolding tallied
    given_then = rw whole

    u' : Streams
    u' = placed (pos m) new u

    streams_then_lem : changed (numbered_change (places w) t) u ≡ u'
    unfolding changed numbered_change u' new
    streams_then_lem = rw (whole, kept.current, c)

    -- a number gets its route now, has it, or waits for one
    data Class (k : ℕ) : Type 0 where
      now : t.given ≤ k → k < t.given + length w → r k ≡ [] → routes_placed k ≡ pos m ∷ [] → Class k
      old : k < t.given → routes_placed k ≡ r k → Class k
      later : t.given + length w ≤ k → r k ≡ [] → routes_placed k ≡ [] → Class k

    class : (k : ℕ) → Class k
    unfolding routes_placed route_after gives takes
    class k = go (dec_lt k t.given) (dec_lt k (t.given + length w))
      where
        kept_route : (ps : List ℤ) → (ps ≡ [] → ⊥) → route_after k (places w) t ps ≡ ps
        kept_route [] d = absurd (d refl)
        kept_route (p ∷ ps) d = refl

        go : Dec (k < t.given) → Dec (k < t.given + length w) → Class k
        go (yes p) d = old p (kept_route (r k) (kept.placed k p))
        go (no p) (yes q) =
            let e = kept.fresh k (omega arith) in
            now (omega arith) q e (rw (e, given_then, c, le-leb t.given k (omega arith), lt-ltb k (t.given + length w) q))
        go (no p) (no q) =
            let e = kept.fresh k (omega arith) in
            later (omega arith) e (rw (e, given_then, le-leb t.given k (omega arith), le-ltb k (t.given + length w) (omega arith)))

    -- a member of a stream has its old route
    old_members : (n : ℕ) → n ≤ 9 → All (λ k. (k < t.given) × (routes_placed k ≡ r k)) (stream_in n u)
    old_members n q = all_are (stream_in n u) (λ k h. go k (class k) (stands_somewhere n (r k) h)) (members kept n q)
      where
        go : (k : ℕ) → Class k → (r k ≡ [] → ⊥) → (k < t.given) × (routes_placed k ≡ r k)
        go k (now a b e f) d = absurd (d e)
        go k (old a f) d = (a, f)
        go k (later a e f) d = absurd (d e)

    counts_then : (n k : ℕ) → n ≤ 9 → occurrences k (stream_in n u') ≡ cond (stands_in n (routes_placed k)) 1 0
    unfolding u' new stands_in is_current
    counts_then n k q = go (ℕ_discrete n m) (class k)
      where
        before : r k ≡ [] → occurrences k (stream_in n u) ≡ 0
        before e = kept.counts n k q ∙ ap (λ (z : List ℤ). cond (stands_in n z) 1 0) e

        same : n ≡ m → occurrences k (stream_in n (placed (pos m) new u)) ≡ occurrences k (stream_in n u) + occurrences k new
        same e = ap (λ (z : ℕ). occurrences k (stream_in n (placed (pos z) new u))) (sym e) ∙ ap (occurrences k) (placed_same new u n q kept.nine) ∙ occurrences-append k (stream_in n u) new

        other : (n ≡ m → ⊥) → occurrences k (stream_in n (placed (pos m) new u)) ≡ occurrences k (stream_in n u)
        other d = ap (occurrences k) (placed_other new u m n l d)

        go : Dec (n ≡ m) → Class k → occurrences k (stream_in n (placed (pos m) new u)) ≡ cond (stands_in n (routes_placed k)) 1 0
        go (yes e) (now a b f g) = rw (g, eq-eqb n m e) (omega (arith, same e, before f, counting_once k t.given (length w) a b))
        go (yes e) (old a g) = rw g (omega (arith, same e, kept.counts n k q, counting_below k t.given (length w) a))
        go (yes e) (later a f g) = rw g (omega (arith, same e, before f, counting_above k t.given (length w) a))
        go (no d) (now a b f g) = rw (g, ne_eqb n m d) (other d ∙ before f)
        go (no d) (old a g) = rw g (other d ∙ kept.counts n k q)
        go (no d) (later a f g) = rw g (other d ∙ before f)

    ahead_then : (j k : ℕ) (p : ℤ) (ps : List ℤ) → (routes_placed k ≡ [] → ⊥) → routes_placed j ≡ p ∷ (ps ++ routes_placed k) → j < k
    ahead_then j k p ps d e = go (class j) (class k)
      where
        go : Class j → Class k → j < k
        go (now a b f g) ck = absurd (d (empty_behind ps (routes_placed k) (let q : pos m ∷ [] ≡ p ∷ (ps ++ routes_placed k) = sym g ∙ e in cc)))
        go (old a g) (now b h f i) = omega arith
        go (old a g) (old b i) = kept.ahead j k p ps (λ q. d (i ∙ q)) (sym g ∙ e ∙ ap (λ (z : List ℤ). p ∷ (ps ++ z)) i)
        go (old a g) (later b f i) = absurd (d i)
        go (later a f g) ck = absurd (let q : [] ≡ p ∷ (ps ++ routes_placed k) = sym g ∙ e in let z : ◌≡◌ {A = ℕ} 0 1 = cc in omega arith)

    order_then : (n : ℕ) → n ≤ 9 → Ordered (Before routes_placed) (stream_in n u')
    unfolding u' new
    order_then n q = go (ℕ_discrete n m)
      where
        old_order : Ordered (Before routes_placed) (stream_in n u)
        old_order = ordered_are (stream_in n u) (λ j k a b h e. h (sym a.1 ∙ e ∙ b.1)) (old_members n q) (kept.order n q)

        new_order : Ordered (Before routes_placed) new
        new_order = ordered_counting t.given (length w) (λ j k h e. h)

        across : All (λ j. All (Before routes_placed j) new) (stream_in n u)
        across = all_are (stream_in n u) (λ j a. all_are new (λ k h e. omega (arith, a.0)) (all_counting t.given (length w))) (old_members n q)

        go : Dec (n ≡ m) → Ordered (Before routes_placed) (stream_in n (placed (pos m) new u))
        go (yes e) =
            subst (λ (z : ℕ). Ordered (Before routes_placed) (stream_in n (placed (pos z) new u))) e
            (rw (placed_same new u n q kept.nine) (ordered_append (Before routes_placed) (stream_in n u) new old_order new_order across))
        go (no d) = rw (placed_other new u m n l d) old_order

    pub keeps_placed : Kept (tallied (places w) t) (changed (numbered_change (places w) t) u) (λ k. route_after k (places w) t (r k))
    unfolding u' tallied current_after routes_placed
    keeps_placed =
        rw streams_then_lem
        (record {
          nine = placed_nine (pos m) new u ∙ kept.nine;
          current = placed_current (pos m) new u ∙ kept.current;
          counts = counts_then;
          fresh = λ k h. fresh_then k (class k) (omega (arith, given_then));
          placed = λ k h. placed_then k (class k) (omega (arith, given_then));
          ahead = ahead_then;
          order = order_then;
        })
      where
        fresh_then : (k : ℕ) → Class k → t.given + length w ≤ k → routes_placed k ≡ []
        fresh_then k (now a b e f) h = absurd (omega arith)
        fresh_then k (old a f) h = absurd (omega arith)
        fresh_then k (later a e f) h = f

        placed_then : (k : ℕ) → Class k → k < t.given + length w → routes_placed k ≡ [] → ⊥
        placed_then k (now a b e f) h q = let z : ◌≡◌ {A = ℕ} 0 1 = cc in absurd (omega arith)
        placed_then k (old a f) h q = kept.placed k a (sym f ∙ q)
        placed_then k (later a e f) h q = absurd (omega arith)

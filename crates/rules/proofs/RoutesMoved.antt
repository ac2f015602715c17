-- The routes where a change moves a stream. Assumes nothing.
use Rattle.rules.proofs.Base.{◌≤◌, ◌<◌, ◌+◌, ℕ, ◌∙◌, refl, sym, ap, ap₂, ◌≡◌, true, Bool, false, true≢false, cond, List, [], ◌++◌, ◌∷◌, add-zero, arith, pos, ℤ, negsuc, length, eqb-true, le-leb}
use lib.Seq.{append_snoc}
use Rattle.rules.specs.Streams.{Streams, is_current, emptied, placed, moved, moves, changed}
use Rattle.rules.specs.History.{first_placed, current_after, Tally, tallied, numbered_change, is_waiting, takes, target, route_after, stands_in, occurrences}
use Rattle.rules.proofs.StreamLaws.{stream_in, placed_current, placed_nine, emptied_nine, emptied_current, moved_other, carried, Carried, gone, grown, left, carry}
use Rattle.rules.proofs.Occurrences.{occurrences-append, All, all_are, Ordered, ordered_append, ordered_are}
use Rattle.rules.proofs.Routes.{Routes, Before, Kept, same_streams, members, stands_somewhere, stands_alone, route_none, route_still, and_false}

module _ (n : ℕ) {t : Tally} {u : Streams} {r : Routes} (kept : Kept t u r) where
  routes_moved : Routes
  routes_moved k = route_after k (moves n) t (r k)

  -- the current one, or none of the nine
  pub keeps_unmoved : moved n u ≡ u → ((p : ℤ) → takes (moves n) t.current p ≡ false) → Kept (tallied (moves n) t) (changed (numbered_change (moves n) t) u) (λ k. route_after k (moves n) t (r k))
  unfolding tallied first_placed current_after changed numbered_change routes_moved
  keeps_unmoved e h =
      same_streams kept (tallied (moves n) t) (moved n u) routes_moved (add-zero t.given) (ap (λ (z : Streams). length z.waiting) e ∙ kept.nine)
      (ap (λ (z : Streams). z.current) e ∙ kept.current) (λ m. ap (stream_in m) e) (λ i k. route_still k (moves n) t (r k) refl h i)

  -- another one
  module _ (low : 1 ≤ n) (high : n ≤ 9) (apart : is_current n t.current ≡ false) where
    u'' : Streams
    u'' = carried u kept.nine n low high t.current apart

    stream : (m : ℕ) → m ≤ 9 → Carried u kept.nine n low high t.current apart m
    stream = carry u kept.nine n low high t.current apart

    streams_moved : moved n u ≡ u''
    unfolding u''
    streams_moved = moved_other u n low (ap (is_current n) kept.current ∙ apart) ∙ ap (λ (z : ℤ). placed z (stream_in n u) (emptied n u)) kept.current

    -- what stands in stream n goes on, and all else stays
    goes_on : (ps : List ℤ) → stands_in n ps ≡ true → (k : ℕ) → route_after k (moves n) t ps ≡ t.current ∷ ps
    unfolding route_after takes target stands_in is_waiting is_current
    goes_on [] e k = absurd (true≢false (sym e))
    goes_on (pos m ∷ ps) e k = rw (e, apart, le-leb 1 m (omega (arith, eqb-true n m e)), le-leb m 9 (omega (arith, eqb-true n m e)))
    goes_on (negsuc m ∷ ps) e k = absurd (true≢false (sym e))

    stays : (ps : List ℤ) → stands_in n ps ≡ false → (k : ℕ) → route_after k (moves n) t ps ≡ ps
    unfolding route_after takes stands_in first_placed
    stays [] e k = route_none k (moves n) t refl
    stays (p ∷ ps) e k = rw (e, and_false (is_waiting p))

    -- a number goes on or stays
    data Class (k : ℕ) : Type 0 where
      taken : stands_in n (r k) ≡ true → routes_moved k ≡ t.current ∷ r k → Class k
      still : stands_in n (r k) ≡ false → routes_moved k ≡ r k → Class k

    class : (k : ℕ) → Class k
    unfolding routes_moved
    class k = go (stands_in n (r k)) refl
      where
        go : (b : Bool) → stands_in n (r k) ≡ b → Class k
        go true e = taken e (goes_on (r k) e k)
        go false e = still e (stays (r k) e k)

    counts_then : (m k : ℕ) → m ≤ 9 → occurrences k (stream_in m u'') ≡ cond (stands_in m (routes_moved k)) 1 0
    unfolding u'' occurrences stands_in
    counts_then m k l = go (stream m l) (class k)
      where
        here : {b : Bool} (q : ℕ) → q ≤ 9 → stands_in q (r k) ≡ b → occurrences k (stream_in q u) ≡ cond b 1 0
        here q h e = kept.counts q k h ∙ ap (λ (b : Bool). cond b 1 0) e

        go : Carried u kept.nine n low high t.current apart m → Class k → occurrences k (stream_in m u'') ≡ cond (stands_in m (routes_moved k)) 1 0
        go (gone e s) (taken a f) = rw (s, f, e, apart)
        go (gone e s) (still a f) = rw (s, f, e, a)
        go (grown d e s) (taken a f) =
            rw (s, f, e) (occurrences-append k (stream_in m u) (stream_in n u) ∙ ap₂ ◌+◌ (here m l (stands_alone n m (r k) a d)) (here n high a))
        go (grown d e s) (still a f) =
            rw (s, f)
            (occurrences-append k (stream_in m u) (stream_in n u) ∙ ap (◌+◌ (occurrences k (stream_in m u))) (here n high a) ∙ add-zero (occurrences k (stream_in m u)) ∙ kept.counts m k l)
        go (left d e s) (taken a f) = rw (s, f, e) (here m l (stands_alone n m (r k) a d))
        go (left d e s) (still a f) = rw (s, f) (kept.counts m k l)

    has_route : (k : ℕ) → Class k → (routes_moved k ≡ [] → ⊥) → r k ≡ [] → ⊥
    has_route k (taken a f) d e = stands_somewhere n (r k) a e
    has_route k (still a f) d e = d (f ∙ e)

    ahead_then : (j k : ℕ) (p : ℤ) (ps : List ℤ) → (routes_moved k ≡ [] → ⊥) → routes_moved j ≡ p ∷ (ps ++ routes_moved k) → j < k
    ahead_then j k p ps d e = go (class j) (class k) ps e
      where
        some_route : r k ≡ [] → ⊥
        some_route = has_route k (class k) d

        go : Class j → Class k → (qs : List ℤ) → routes_moved j ≡ p ∷ (qs ++ routes_moved k) → j < k
        go (still a f) (still b g) qs q = kept.ahead j k p qs some_route (sym f ∙ q ∙ ap (λ (z : List ℤ). p ∷ (qs ++ z)) g)
        go (still a f) (taken b g) qs q =
            kept.ahead j k p (qs ++ (t.current ∷ [])) some_route
            (sym f ∙ q ∙ ap (λ (z : List ℤ). p ∷ (qs ++ z)) g ∙ ap (◌∷◌ p) (sym (append_snoc qs t.current (r k))))
        go (taken a f) (still b g) [] q =
            absurd (true≢false (sym a ∙ ap (stands_in n) (let z : t.current ∷ r j ≡ p ∷ r k = sym f ∙ q ∙ ap (◌∷◌ p) g in cc) ∙ b))
        go (taken a f) (still b g) (x ∷ qs) q =
            kept.ahead j k x qs some_route (let z : t.current ∷ r j ≡ p ∷ x ∷ (qs ++ r k) = sym f ∙ q ∙ ap (λ (z : List ℤ). p ∷ x ∷ (qs ++ z)) g in cc)
        go (taken a f) (taken b g) [] q = kept.ahead j k t.current [] some_route (let z : t.current ∷ r j ≡ p ∷ t.current ∷ r k = sym f ∙ q ∙ ap (◌∷◌ p) g in cc)
        go (taken a f) (taken b g) (x ∷ qs) q =
            kept.ahead j k x (qs ++ (t.current ∷ [])) some_route
            ((let z : t.current ∷ r j ≡ p ∷ x ∷ (qs ++ (t.current ∷ r k)) = sym f ∙ q ∙ ap (λ (z : List ℤ). p ∷ x ∷ (qs ++ z)) g in cc)
            ∙ ap (◌∷◌ x) (sym (append_snoc qs t.current (r k))))

    -- members of another stream keep their route, those of stream n go on
    still_members : (m : ℕ) → m ≤ 9 → (m ≡ n → ⊥) → All (λ k. routes_moved k ≡ r k) (stream_in m u)
    still_members m l d = all_are (stream_in m u) (λ k h. go k h (class k)) (members kept m l)
      where
        go : (k : ℕ) → stands_in m (r k) ≡ true → Class k → routes_moved k ≡ r k
        go k h (taken a f) = absurd (true≢false (sym h ∙ stands_alone n m (r k) a d))
        go k h (still a f) = f

    taken_members : All (λ k. (routes_moved k ≡ t.current ∷ r k) × (r k ≡ [] → ⊥)) (stream_in n u)
    taken_members = all_are (stream_in n u) (λ k h. go k h (class k)) (members kept n high)
      where
        go : (k : ℕ) → stands_in n (r k) ≡ true → Class k → (routes_moved k ≡ t.current ∷ r k) × (r k ≡ [] → ⊥)
        go k h (taken a f) = (f, stands_somewhere n (r k) h)
        go k h (still a f) = absurd (true≢false (sym h ∙ a))

    order_then : (m : ℕ) → m ≤ 9 → Ordered (Before routes_moved) (stream_in m u'')
    unfolding u''
    order_then m l = go (stream m l)
      where
        still_order : (m ≡ n → ⊥) → Ordered (Before routes_moved) (stream_in m u)
        still_order d = ordered_are (stream_in m u) (λ j k a b h e. h (sym a ∙ e ∙ b)) (still_members m l d) (kept.order m l)

        taken_order : Ordered (Before routes_moved) (stream_in n u)
        taken_order = ordered_are (stream_in n u) (λ j k a b h e. h (let z : t.current ∷ r j ≡ t.current ∷ r k = sym a.0 ∙ e ∙ b.0 in cc)) taken_members (kept.order n high)

        across : (m ≡ n → ⊥) → All (λ j. All (Before routes_moved j) (stream_in n u)) (stream_in m u)
        across d =
            all_are (stream_in m u) (λ j a. all_are (stream_in n u) (λ k b e. kept.ahead j k t.current [] b.1 (sym a ∙ e ∙ b.0)) taken_members)
            (still_members m l d)

        go : Carried u kept.nine n low high t.current apart m → Ordered (Before routes_moved) (stream_in m u'')
        go (gone e s) = rw s tt
        go (grown d e s) = rw s (ordered_append (Before routes_moved) (stream_in m u) (stream_in n u) (still_order d) taken_order (across d))
        go (left d e s) = rw s (still_order d)

    pub keeps_moved : Kept (tallied (moves n) t) (changed (numbered_change (moves n) t) u) (λ k. route_after k (moves n) t (r k))
    unfolding tallied first_placed current_after changed numbered_change u'' routes_moved
    keeps_moved =
        rw streams_moved
        (record {
          nine = placed_nine t.current (stream_in n u) (emptied n u) ∙ emptied_nine u n ∙ kept.nine;
          current = placed_current t.current (stream_in n u) (emptied n u) ∙ emptied_current u n ∙ kept.current;
          counts = counts_then;
          fresh = λ k h. fresh_then k (class k) (kept.fresh k (omega arith));
          placed = λ k h e. placed_then k (class k) (kept.placed k (omega arith)) e;
          ahead = ahead_then;
          order = order_then;
        })
      where
        fresh_then : (k : ℕ) → Class k → r k ≡ [] → routes_moved k ≡ []
        fresh_then k (taken a f) e = absurd (stands_somewhere n (r k) a e)
        fresh_then k (still a f) e = f ∙ e

        placed_then : (k : ℕ) → Class k → (r k ≡ [] → ⊥) → routes_moved k ≡ [] → ⊥
        placed_then k (taken a f) d e = let z : ◌≡◌ {A = ℕ} 0 1 = cc in absurd (omega arith)
        placed_then k (still a f) d e = d (sym f ∙ e)

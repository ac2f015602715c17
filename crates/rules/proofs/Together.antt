-- Bytes that were first placed in one stream and make every move together have one route.
use Rattle.rules.proofs.Base.{◌≤◌, ◌<◌, ℕ, ◌∙◌, refl, sym, ap, ◌≡◌, true, Bool, false, cond, and-eq-true_iff, Some, List, [], ◌∷◌, arith, leb, ltb, ℤ, le-leb, ltb-true, ltb-false}
use Rattle.rules.specs.Streams.{Change}
use Rattle.rules.specs.History.{Tally, tallied, first_tally, takes, target, gives, route_after, route_from, route_of, first_stream, is_taken, moves_from, moves_of, Together}
use Rattle.rules.proofs.Routes.{first_route, no_route, route_left}

-- a change moves it or leaves it
either_way :
    (P : List ℤ → Type 0) (k : ℕ) (x : Change) (t : Tally) (p : ℤ) (ps : List ℤ) → P (target x t.current ∷ p ∷ ps) → P (p ∷ ps) → P (route_after k x t (p ∷ ps))
unfolding route_after
either_way P k x t p ps f g = go (takes x t.current p)
  where
    go : (b : Bool) → P (cond b (target x t.current ∷ p ∷ ps) (p ∷ ps))
    go true = f
    go false = g

firsts_kept : (h : List Change) (k : ℕ) (t : Tally) (p : ℤ) (ps : List ℤ) → first_stream (route_from k t (p ∷ ps) h) ≡ first_stream (p ∷ ps)
unfolding route_from first_stream
firsts_kept [] k t p ps = refl
firsts_kept (x ∷ xs) k t p ps =
    either_way (λ z. first_stream (route_from k (tallied x t) z xs) ≡ first_stream (p ∷ ps)) k x t p ps (firsts_kept xs k (tallied x t) (target x t.current) (p ∷ ps))
    (firsts_kept xs k (tallied x t) p ps)

-- a number that has a route goes on like any other that has it
same_way : (h : List Change) (j k : ℕ) (t : Tally) (p : ℤ) (ps : List ℤ) → route_from j t (p ∷ ps) h ≡ route_from k t (p ∷ ps) h
unfolding route_from route_after
same_way [] j k t p ps = refl
same_way (x ∷ xs) j k t p ps =
    either_way (λ z. route_from j (tallied x t) z xs ≡ route_from k (tallied x t) z xs) k x t p ps (same_way xs j k (tallied x t) (target x t.current) (p ∷ ps))
    (same_way xs j k (tallied x t) p ps)

-- a number that a change gives, or not yet
gives_now : (k : ℕ) (x : Change) (t : Tally) → gives k x t ≡ true → k < (tallied x t).given
unfolding gives
gives_now k x t e = ltb-true k (tallied x t).given ((and-eq-true_iff (leb t.given k) (ltb k (tallied x t).given)).0 e).1

gives_later : (k : ℕ) (x : Change) (t : Tally) → t.given ≤ k → gives k x t ≡ false → (tallied x t).given ≤ k
unfolding gives
gives_later k x t l e = ltb-false k (tallied x t).given (sym (rw (le-leb t.given k l)) ∙ e)

module _ (j k : ℕ) where
  -- what has to be shown of the routes rj and rk that the two have so far
  abbrev Meet : List Change → Tally → List ℤ → List ℤ → Type 0
  Meet h t rj rk =
      moves_from j t rj h ≡ moves_from k t rk h → first_stream (route_from j t rj h) ≡ first_stream (route_from k t rk h) → route_from j t rj h ≡ route_from k t rk h

  -- the first has stood in stream p alone when the second is placed
  joins : (h : List Change) (t : Tally) (p : ℤ) → Meet h t (p ∷ []) []
  unfolding moves_from is_taken route_from first_stream
  joins [] t p m f = cc
  joins (x ∷ xs) t p m f = go (gives k x t) refl (joins xs (tallied x t) p)
    where
      stays : route_after j x t (p ∷ []) ≡ p ∷ []
      stays = route_left j x t p [] (cc)

      tails : moves_from j (tallied x t) (route_after j x t (p ∷ [])) xs ≡ moves_from k (tallied x t) (route_after k x t []) xs
      tails = cc

      go : (b : Bool) → gives k x t ≡ b → Meet xs (tallied x t) (p ∷ []) [] → route_from j (tallied x t) (route_after j x t (p ∷ [])) xs ≡ route_from k (tallied x t) (route_after k x t []) xs
      go true e on =
          let firsts : Some p ≡ Some t.current = sym (firsts_kept xs j (tallied x t) p []) ∙ (rw (stays, first_route k x t e) at f) ∙ firsts_kept xs k (tallied x t) t.current [] in
          let same : p ≡ t.current = cc in
          rw (stays, first_route k x t e) (ap (λ (z : ℤ). route_from j (tallied x t) (z ∷ []) xs) same ∙ same_way xs j k (tallied x t) t.current [])
      go false e on = rw (stays, no_route k x t e) (on (rw (stays, no_route k x t e) at tails) (rw (stays, no_route k x t e) at f))

  -- neither is placed yet
  together : j < k → (h : List Change) (t : Tally) → t.given ≤ j → Meet h t [] []
  unfolding moves_from is_taken route_from
  together l [] t g m f = refl
  together l (x ∷ xs) t g m f = go (gives j x t) refl (gives k x t) refl (together l xs (tallied x t))
    where
      tails : moves_from j (tallied x t) (route_after j x t []) xs ≡ moves_from k (tallied x t) (route_after k x t []) xs
      tails = cc

      go : (a : Bool) → gives j x t ≡ a → (b : Bool) → gives k x t ≡ b → ((tallied x t).given ≤ j → Meet xs (tallied x t) [] [])
          → route_from j (tallied x t) (route_after j x t []) xs ≡ route_from k (tallied x t) (route_after k x t []) xs
      go true a true b on = rw (first_route j x t a, first_route k x t b) (same_way xs j k (tallied x t) t.current [])
      go true a false b on =
          rw (first_route j x t a, no_route k x t b)
          (joins xs (tallied x t) t.current (rw (first_route j x t a, no_route k x t b) at tails) (rw (first_route j x t a, no_route k x t b) at f))
      go false a true b on = absurd (omega (arith, gives_now k x t b, gives_later j x t g a))
      go false a false b on =
          rw (no_route j x t a, no_route k x t b)
          (on (gives_later j x t g a) (rw (no_route j x t a, no_route k x t b) at tails) (rw (no_route j x t a, no_route k x t b) at f))

-- they have one route
pub one_route : (h : List Change) (j k : ℕ) → j < k → Together h j k → route_of j h ≡ route_of k h
unfolding route_of moves_of first_tally
one_route h j k l w = together j k l h first_tally (omega arith) w.moved w.placed

-- The end of a run: what it does to the output are moves of all nine streams to it, and so are the routes.
use Rattle.rules.proofs.Base.{◌≤◌, ◌<◌, ◌-◌, ℕ, suc, zero, ◌∙◌, refl, sym, ap, ◌≡◌, true, Bool, false, true≢false, ◌&&◌, and-eq-true_iff, List, [], ◌++◌, ◌∷◌, append_assoc, append-nil, map, arith, leb, pos, ℤ, negsuc, length, eq-eqb, ne_eqb, le-leb, leb-true, ltb-false, ℕ_discrete, ◌⊎◌, inl, inr}
use Rattle.rules.specs.Bytes.{Bytes}
use Rattle.rules.specs.Streams.{Streams, discards, is_current, emptied, placed, waiting_in, moved, joined, finished_streams, diverted, Change, moves, finishes, diverts, changed, changed_in_turn}
use Rattle.rules.specs.Changes.{is_working, all_working}
use Rattle.rules.specs.History.{first_placed, current_after, Tally, tallied, numbered_change, numbered_from, is_waiting, takes, target, route_after, route_from, is_lost, stands_in}
use Rattle.rules.proofs.Numbering.{tally_after}
use Rattle.rules.proofs.Routes.{and_false, route_none, route_still}
use Rattle.rules.proofs.Routes.{route_on, route_left}

-- what the end does to the output are the moves of all nine to it
nine : List ℕ
nine = 1 ∷ 2 ∷ 3 ∷ 4 ∷ 5 ∷ 6 ∷ 7 ∷ 8 ∷ 9 ∷ []

pub joining : List Change
joining = diverts (pos 0) ∷ map moves nine

pub joining_works : all_working joining ≡ true
unfolding joining nine all_working is_working
joining_works = refl

pub joining_numbered : (t : Tally) → numbered_from t joining ≡ joining
unfolding joining nine numbered_from numbered_change
joining_numbered t = refl

in_turn_lem : (o a b c d f g k l m : Bytes) → o ++ a ++ b ++ c ++ d ++ f ++ g ++ k ++ l ++ m ≡ o ++ (a ++ (b ++ (c ++ (d ++ (f ++ (g ++ (k ++ (l ++ (m ++ [])))))))))
in_turn_lem o a b c d f g k l m = simp (append_assoc, append-nil)

pub joining_given : (t : Tally) → (tally_after t joining).given ≡ t.given
unfolding joining nine tally_after tallied first_placed
joining_given t = omega arith

pub output_joined : (u : Streams) → length u.waiting ≡ 9 → (changed_in_turn joining u).output ≡ (changed finishes u).output
unfolding joining nine changed_in_turn changed diverted moved is_current placed waiting_in emptied finished_streams joined
output_joined u e = go u.waiting e
  where
    with_waiting : List Bytes → Streams
    with_waiting ws = record { output = u.output; waiting = ws; current = u.current }

    go : (ws : List Bytes) → length ws ≡ 9 → (changed_in_turn joining (with_waiting ws)).output ≡ u.output ++ joined ws
    go [] h = absurd (omega arith)
    go (a ∷ []) h = absurd (omega arith)
    go (a ∷ b ∷ []) h = absurd (omega arith)
    go (a ∷ b ∷ c ∷ []) h = absurd (omega arith)
    go (a ∷ b ∷ c ∷ d ∷ []) h = absurd (omega arith)
    go (a ∷ b ∷ c ∷ d ∷ f ∷ []) h = absurd (omega arith)
    go (a ∷ b ∷ c ∷ d ∷ f ∷ g ∷ []) h = absurd (omega arith)
    go (a ∷ b ∷ c ∷ d ∷ f ∷ g ∷ k ∷ []) h = absurd (omega arith)
    go (a ∷ b ∷ c ∷ d ∷ f ∷ g ∷ k ∷ l ∷ []) h = absurd (omega arith)
    go (a ∷ b ∷ c ∷ d ∷ f ∷ g ∷ k ∷ l ∷ m ∷ []) h = in_turn_lem u.output a b c d f g k l m
    go (a ∷ b ∷ c ∷ d ∷ f ∷ g ∷ k ∷ l ∷ m ∷ x ∷ xs) h = absurd (omega arith)

-- the route of a number along moves to stream 0
abbrev Has : ℕ → List ℕ → Type 0
Has n [] = ⊥
Has n (m ∷ ms) = (n ≡ m) ⊎ Has n ms

has_nine : (n : ℕ) → 1 ≤ n → n ≤ 9 → Has n nine
unfolding nine
has_nine n l h = go (n - 1) (omega arith) (omega arith)
  where
    go : (i : ℕ) → n ≡ suc i → i < 9 → Has n (1 ∷ 2 ∷ 3 ∷ 4 ∷ 5 ∷ 6 ∷ 7 ∷ 8 ∷ 9 ∷ [])
    go zero e q = inl e
    go (suc zero) e q = inr (inl e)
    go (suc (suc zero)) e q = inr (inr (inl e))
    go (suc (suc (suc zero))) e q = inr (inr (inr (inl e)))
    go (suc (suc (suc (suc zero)))) e q = inr (inr (inr (inr (inl e))))
    go (suc (suc (suc (suc (suc zero))))) e q = inr (inr (inr (inr (inr (inl e)))))
    go (suc (suc (suc (suc (suc (suc zero)))))) e q = inr (inr (inr (inr (inr (inr (inl e))))))
    go (suc (suc (suc (suc (suc (suc (suc zero))))))) e q = inr (inr (inr (inr (inr (inr (inr (inl e)))))))
    go (suc (suc (suc (suc (suc (suc (suc (suc zero)))))))) e q = inr (inr (inr (inr (inr (inr (inr (inr (inl e))))))))
    go (suc (suc (suc (suc (suc (suc (suc (suc (suc i))))))))) e q = absurd (omega arith)

waits : (n : ℕ) → is_waiting (pos n) ≡ true → (1 ≤ n) × (n ≤ 9)
unfolding is_waiting
waits n e = let q = (and-eq-true_iff (leb 1 n) (leb n 9)).0 e in (leb-true 1 n q.0, leb-true n 9 q.1)

module _ (k : ℕ) where
  -- what follows a move
  onward :
      (m : ℕ) (ms : List ℕ) (t : Tally) (p : List ℤ) {r : List ℤ} → route_after k (moves m) t p ≡ r
      → route_from k t p (map moves (m ∷ ms)) ≡ route_from k (tallied (moves m) t) r (map moves ms)
  unfolding route_from
  onward m ms t p e = ap (λ (r : List ℤ). route_from k (tallied (moves m) t) r (map moves ms)) e

  unplaced : (ms : List ℕ) (t : Tally) → route_from k t [] (map moves ms) ≡ []
  unfolding route_from first_placed
  unplaced [] t = refl
  unplaced (m ∷ ms) t = onward m ms t [] (route_none k (moves m) t refl) ∙ unplaced ms (tallied (moves m) t)

  unmoved : (ms : List ℕ) (t : Tally) (p : ℤ) (ps : List ℤ) → is_waiting p ≡ false → route_from k t (p ∷ ps) (map moves ms) ≡ p ∷ ps
  unfolding route_from takes
  unmoved [] t p ps e = refl
  unmoved (m ∷ ms) t p ps e = onward m ms t _ (route_left k (moves m) t p ps (rw e)) ∙ unmoved ms (tallied (moves m) t) p ps e

  moved_once :
      (ms : List ℕ) (t : Tally) (n : ℕ) (ps : List ℤ) → 1 ≤ n → n ≤ 9 → t.current ≡ pos 0 → Has n ms
      → route_from k t (pos n ∷ ps) (map moves ms) ≡ pos 0 ∷ pos n ∷ ps
  unfolding tallied current_after takes is_waiting is_current target
  moved_once [] t n ps l h c o = absurd o
  moved_once (m ∷ ms) t n ps l h c o = go (ℕ_discrete m n) o (λ q. moved_once ms (tallied (moves m) t) n ps l h c q)
    where
      here : m ≡ n → takes (moves m) t.current (pos n) ≡ true
      here e = rw (c, le-leb 1 n l, le-leb n 9 h, eq-eqb m n e, ne_eqb m 0 (λ q. omega arith))

      other : (m ≡ n → ⊥) → takes (moves m) t.current (pos n) ≡ false
      other d = rw (ne_eqb m n d, and_false (leb 1 n && leb n 9))

      behind : {m : ℕ} → (m ≡ n → ⊥) → (n ≡ m) ⊎ Has n ms → Has n ms
      behind d (inl e) = absurd (d (sym e))
      behind d (inr q) = q

      go : Dec (m ≡ n) → (n ≡ m) ⊎ Has n ms → (Has n ms → route_from k (tallied (moves m) t) (pos n ∷ ps) (map moves ms) ≡ pos 0 ∷ pos n ∷ ps)
          → route_from k t (pos n ∷ ps) (map moves (m ∷ ms)) ≡ pos 0 ∷ pos n ∷ ps
      go (yes e) q f =
          onward m ms t _ (route_on k (moves m) t (pos n) ps (here e) ∙ ap (λ (z : ℤ). z ∷ pos n ∷ ps) c) ∙ unmoved ms (tallied (moves m) t) (pos 0) (pos n ∷ ps) refl
      go (no d) q f = onward m ms t _ (route_left k (moves m) t (pos n) ps (other d)) ∙ f (behind d q)

  -- the end takes what waits to the output, once
  pub route_joined : (t : Tally) (r : List ℤ) → route_from k t r joining ≡ route_after k finishes t r
  unfolding joining route_from first_placed takes target is_waiting tallied current_after
  route_joined t r =
      ap (λ (z : List ℤ). route_from k (tallied (diverts (pos 0)) t) z (map moves nine)) (route_still k (diverts (pos 0)) t r refl (λ p. refl))
      ∙ go r
    where
      t' : Tally
      t' = tallied (diverts (pos 0)) t

      ends : (p : ℤ) (ps : List ℤ) (b : Bool) → is_waiting p ≡ b → route_from k t' (p ∷ ps) (map moves nine) ≡ route_after k finishes t (p ∷ ps)
      ends p ps false e = unmoved nine t' p ps e ∙ sym (route_left k finishes t p ps e)
      ends (pos n) ps true e = moved_once nine t' n ps (waits n e).0 (waits n e).1 refl (has_nine n (waits n e).0 (waits n e).1) ∙ sym (route_on k finishes t (pos n) ps e)
      ends (negsuc n) ps true e = absurd (true≢false (sym e))

      go : (z : List ℤ) → route_from k t' z (map moves nine) ≡ route_after k finishes t z
      go [] = unplaced nine t' ∙ sym (route_none k finishes t refl)
      go (p ∷ ps) = ends p ps (is_waiting p) refl

-- where the end leaves a number: in the output, or lost
not_waiting : (p : ℤ) → is_waiting p ≡ false → discards p ≡ false → is_current 0 p ≡ true
unfolding is_waiting discards is_current
not_waiting (negsuc n) w l = absurd (true≢false l)
not_waiting (pos zero) w l = refl
not_waiting (pos (suc i)) w l = absurd (true≢false (sym (rw (le-leb 1 (suc i) (omega arith), le-leb (suc i) 9 (ltb-false 9 (suc i) l))) ∙ w))

pub end_leaves : (k : ℕ) (t : Tally) (r : List ℤ) → (route_after k finishes t r ≡ [] → ⊥) → is_lost (route_after k finishes t r) ≡ false → stands_in 0 (route_after k finishes t r) ≡ true
unfolding is_lost stands_in is_current first_placed takes target
end_leaves k t [] d e = absurd (d (route_none k finishes t refl))
end_leaves k t (p ∷ ps) d e = go (is_waiting p) refl
  where
    go : (b : Bool) → is_waiting p ≡ b → stands_in 0 (route_after k finishes t (p ∷ ps)) ≡ true
    go true w = rw (route_on k finishes t p ps w)
    go false w = rw (route_left k finishes t p ps w) (not_waiting p w (sym (ap is_lost (route_left k finishes t p ps w)) ∙ e))

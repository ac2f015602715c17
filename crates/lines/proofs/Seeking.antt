-- The last of the totals that is below a number. Assumes nothing.
use Rattle.rules.proofs.Base.{◌≤◌, ℕ, ◌<◌, suc, zero, ◌∙◌, refl, ap, ◌≡◌, Bool, true, false, cond, Some, None, Option, List, arith, ltb, length, take, get_or, le-ltb, ltb-true, ltb-false, get_or-take, length-take-le}
use Rattle.std.proofs.Common.{MatchOption}
use Rattle.rules.specs.Lines.{last_below}

module _ (m : ℕ) (totals : List ℕ) where
  -- those behind it are not below
  abbrev pub Last : ℕ → Option ℕ → Type 0
  Last n o =
      MatchOption o ((k : ℕ) → k < n → m ≤ get_or totals k 0)
      (λ i. (i < n) × (get_or totals i 0 < m) × ((k : ℕ) → i < k → k < n → m ≤ get_or totals k 0))

  pub last_is : (n : ℕ) (o : Option ℕ) → Last n o → o ≡ last_below m totals n
  unfolding last_below
  last_is zero None h = refl
  last_is zero (Some i) h = absurd (omega (arith, h.0))
  last_is (suc n) None h = rw (le-ltb (get_or totals n 0) m (h n (omega arith))) (last_is n None (λ k l. h k (omega arith)))
  last_is (suc n) (Some i) h = go (ltb (get_or totals n 0) m) refl (λ l. last_is n (Some i) (l, h.1, λ k a b. h.2 k a (omega arith)))
    where
      go : (t : Bool) → ltb (get_or totals n 0) m ≡ t → (i < n → Some i ≡ last_below m totals n) → Some i ≡ cond t (Some n) (last_below m totals n)
      go true e r =
          let b = ltb-true (get_or totals n 0) m e in
          let other : i < n → ⊥ = λ q. let l = h.2 n q (omega arith) in omega arith in
          let is : i ≡ n = omega (arith, h.0, other) in
          ap Some is
      go false e r =
          let b = ltb-false (get_or totals n 0) m e in
          let other : i ≡ n → ⊥ = λ q. let s : get_or totals i 0 ≡ get_or totals n 0 = ap (λ (j : ℕ). get_or totals j 0) q in omega (arith, h.1, b, s) in
          r (omega (arith, h.0, other))

  -- only the first n are read
  last_in_front : (n k : ℕ) → k ≤ n → last_below m (take n totals) k ≡ last_below m totals k
  unfolding last_below
  last_in_front n zero h = refl
  last_in_front n (suc k) h = rw (get_or-take n totals k 0 (omega arith), last_in_front n k (omega arith)) refl

  pub last_of_front : (n : ℕ) → n ≤ length totals → last_below m (take n totals) (length (take n totals)) ≡ last_below m totals n
  last_of_front n h = ap (last_below m (take n totals)) (length-take-le n totals h) ∙ last_in_front n n (omega arith)

  -- it is one of them, and below
  pub last_inside : (n i : ℕ) → last_below m totals n ≡ Some i → (i < n) × (get_or totals i 0 < m)
  unfolding last_below
  last_inside zero i e = let w : ◌≡◌ {A = ℕ} 0 1 = cc in absurd (omega arith)
  last_inside (suc n) i e = go (ltb (get_or totals n 0) m) refl e (last_inside n i)
    where
      go : (t : Bool) → ltb (get_or totals n 0) m ≡ t → cond t (Some n) (last_below m totals n) ≡ Some i
          → (last_below m totals n ≡ Some i → (i < n) × (get_or totals i 0 < m)) → (i < suc n) × (get_or totals i 0 < m)
      go true f s r = let is : n ≡ i = cc in let b : get_or totals i 0 < m = rw (← is) (ltb-true (get_or totals n 0) m f) in (omega arith, b)
      go false f s r = let q = r s in (omega (arith, q.0), q.1)

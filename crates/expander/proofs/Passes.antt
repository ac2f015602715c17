-- Laws of the passes over owners and bytes: a turn, and what is known when the pass ends. Assumes nothing.
use Rattle.rules.proofs.Base.{◌≤◌, ◌+◌, ℕ, ◌-◌, ◌<◌, suc, ◌∙◌, refl, sym, ap, ◌≡◌, ap₂, List, [], ◌++◌, ◌∷◌, append_assoc, append-nil, add-zero, add-one, ℕ_discrete, dec_lt, arith, length, drop, take, get_or, length-append, set, drop_of_length-le, length-set, length-take, replicate, length-replicate, get_or-replicate, length-take-le, drop-cons, drop-drop, get_or-take, take_all, get_or-drop, take-suc-set, paste, drop-set-lt, paste-suc, take-set-le}
use Rattle.expander.specs.Streams.{owned_by, owns_one, owned_count}
use Rattle.expander.proofs.OwnedBytes.{not_owned, mine_counted, other_counted, mine_owned, other_owned, mine_out, other_kept, owned_none, count_first, owned_length, kept_length}

-- writing a run of i: k of n are there
pub runs_on : (d₀ d : List ℕ) (at n i k : ℕ) → d ≡ paste d₀ at (replicate n i) k → at + n ≤ length d₀ → k < n → set d (at + k) i ≡ paste d₀ at (replicate n i) (k + 1)
runs_on d₀ d at n i k e l h =
    let v : i ≡ get_or (replicate n i) k 0 = sym (get_or-replicate n k i 0 h) in
    ap₂ (λ (x : List ℕ) (y : ℕ). set x (at + k) y) e v
    ∙ paste-suc d₀ at (replicate n i) k 0 (omega arith) (omega (arith, length-replicate n i))
    ∙ ap (paste d₀ at (replicate n i)) (sym (add-one k))

pub runs_end : (d₀ d : List ℕ) (at n i k : ℕ) → d ≡ paste d₀ at (replicate n i) k → k ≡ n → d ≡ take at d₀ ++ (replicate n i ++ drop (at + n) d₀)
runs_end d₀ d at n i k e h =
    e
    ∙ ap (paste d₀ at (replicate n i)) h
    ∙ ap (λ (l : List ℕ). (take at d₀ ++ l) ++ drop (at + n) d₀) (take_all n (replicate n i) (omega (arith, length-replicate n i)))
    ∙ append_assoc (take at d₀) (replicate n i) (drop (at + n) d₀)

-- counting: what is counted and what is left
module _ (i u : ℕ) (o : List ℕ) (k n : ℕ) (e : n + owned_count i (drop k (take u o)) ≡ owned_count i (take u o)) where
  pub counts_on : k < u → u ≤ length o → (r : ℕ) → r ≡ owns_one (get_or o k 0) i → n + r + owned_count i (drop (k + 1) (take u o)) ≡ owned_count i (take u o)
  counts_on h l r q =
      let os = take u o in
      let x : r ≡ owns_one (get_or os k 0) i = q ∙ ap (λ (y : ℕ). owns_one y i) (sym (get_or-take u o k 0 h)) in
      let f : owned_count i (drop k os) ≡ owns_one (get_or os k 0) i + owned_count i (drop (k + 1) os) =
      ap (owned_count i) (drop-cons os k 0 (omega (arith, length-take u o)))
      ∙ count_first i (get_or os k 0) (drop (suc k) os)
      ∙ ap (λ (m : ℕ). owns_one (get_or os k 0) i + owned_count i (drop m os)) (sym (add-one k)) in
      omega arith

  pub counts_end : u ≤ k → n ≡ owned_count i (take u o)
  unfolding owned_count
  counts_end h = sym (add-zero n) ∙ ap (λ (l : List ℕ). n + owned_count i l) (sym (drop_of_length-le (take u o) {i = k} (omega (arith, length-take u o)))) ∙ e

-- a store at the place where the next element goes: it is there, or does not count yet
stored_there : (d : List ℕ) (n v : ℕ) (more : List ℕ) → n < length d → take (n + 1) (set d n v) ++ more ≡ take n d ++ v ∷ more
stored_there d n v more h = ap (λ (m : ℕ). take m (set d n v) ++ more) (add-one n) ∙ ap (λ (l : List ℕ). l ++ more) (take-suc-set d n v h) ∙ append_assoc (take n d) (v ∷ []) more

stored_not : (d : List ℕ) (n v : ℕ) (more : List ℕ) → take n (set d n v) ++ more ≡ take n d ++ more
stored_not d n v more = ap (λ (l : List ℕ). l ++ more) (take-set-le n d n v (omega arith))

nothing-behind : (d r w : List ℕ) → d ++ r ≡ w → length w ≡ length d → d ≡ w
nothing-behind d [] w e h = sym (append-nil d) ∙ e
nothing-behind d (x ∷ r) w e h = absurd (omega (arith, length-append d (x ∷ r), ap length e))

-- taking a stream out: n bytes of it are in d, and the rest is owned from k on
pub record Extracting (i : ℕ) (os bs d : List ℕ) (n k : ℕ) : Type 0 where
  pub whole : take n d ++ owned_by i (drop k os) (drop k bs) ≡ owned_by i os bs

module _ (i : ℕ) (os bs d : List ℕ) (n k : ℕ) (x : Extracting i os bs d n k) where
  extracts_in : length os ≡ length bs → length d ≡ owned_count i os → n < length d → k < length os
  extracts_in l s h = go (dec_lt k (length os))
    where
      go : Dec (k < length os) → k < length os
      go (yes p) = p
      go (no p) =
          let q : length os ≤ k = omega arith in
          let e : take n d ≡ owned_by i os bs =
          sym (append-nil (take n d)) ∙ ap (λ (r : List ℕ). take n d ++ r) (sym (ap (λ (r : List ℕ). owned_by i r (drop k bs)) (drop_of_length-le os q) ∙ owned_none i (drop k bs))) ∙ x.whole in
          absurd (omega (arith, length-take n d, ap length e, owned_length i os bs l))

  extracts_on : n < length d → k < length os → k < length bs → Extracting i os bs (set d n (get_or bs k 0)) (n + owns_one (get_or os k 0) i) (k + 1)
  extracts_on h p q = record { whole = go (ℕ_discrete (get_or os k 0) i) }
    where
      opened : owned_by i (drop k os) (drop k bs) ≡ owned_by i (get_or os k 0 ∷ drop (k + 1) os) (get_or bs k 0 ∷ drop (k + 1) bs)
      opened = rw (drop-cons os k 0 p, drop-cons bs k 0 q, add-one k)

      go : Dec (get_or os k 0 ≡ i) → take (n + owns_one (get_or os k 0) i) (set d n (get_or bs k 0)) ++ owned_by i (drop (k + 1) os) (drop (k + 1) bs) ≡ owned_by i os bs
      go (yes e) =
          rw (mine_counted e)
          (stored_there d n (get_or bs k 0) (owned_by i (drop (k + 1) os) (drop (k + 1) bs)) h
          ∙ ap (λ (r : List ℕ). take n d ++ r) (sym (opened ∙ mine_owned e (get_or bs k 0) (drop (k + 1) os) (drop (k + 1) bs)))
          ∙ x.whole)
      go (no e) =
          rw (other_counted e, add-zero n)
          (stored_not d n (get_or bs k 0) (owned_by i (drop (k + 1) os) (drop (k + 1) bs))
          ∙ ap (λ (r : List ℕ). take n d ++ r) (sym (opened ∙ other_owned e (get_or bs k 0) (drop (k + 1) os) (drop (k + 1) bs)))
          ∙ x.whole)

  extracts_end : length os ≡ length bs → length d ≡ owned_count i os → length d ≤ n → d ≡ owned_by i os bs
  extracts_end l s h =
      let w = owned_by i (drop k os) (drop k bs) in
      nothing-behind d w (owned_by i os bs) (ap (λ (r : List ℕ). r ++ w) (sym (take_all n d h)) ∙ x.whole) (owned_length i os bs l ∙ sym s)

-- the same where os and bs are the parts in use
module _ (i u : ℕ) (b o d : List ℕ) (n k : ℕ) (x : Extracting i (take u o) (take u b) d n k) (hb : u ≤ length b) (ho : u ≤ length o) where
  parts_same : length (take u o) ≡ length (take u b)
  parts_same = length-take-le u o ho ∙ sym (length-take-le u b hb)

  pub extract_in : length d ≡ owned_count i (take u o) → n < length d → k < u
  extract_in s h = omega (arith, extracts_in i (take u o) (take u b) d n k x parts_same s h, length-take u o)

  pub extract_on : n < length d → k < u → (r : ℕ) → r ≡ owns_one (get_or o k 0) i → Extracting i (take u o) (take u b) (set d n (get_or b k 0)) (n + r) (k + 1)
  extract_on h p r q =
      rw (q, ← get_or-take u b k 0 p, ← get_or-take u o k 0 p)
      (extracts_on i (take u o) (take u b) d n k x h (omega (arith, length-take u o)) (omega (arith, length-take u b)))

  pub extract_end : length d ≡ owned_count i (take u o) → length d ≤ n → d ≡ owned_by i (take u o) (take u b)
  extract_end = extracts_end i (take u o) (take u b) d n k x parts_same

-- closing up: n elements of d are kept of the first k of xs, and from k on d is still xs
pub record Closing (i : ℕ) (os xs d : List ℕ) (used n k : ℕ) : Type 0 where
  pub kept : take n d ++ not_owned i (drop k os) (drop k (take used xs)) ≡ not_owned i os (take used xs)
  pub ahead : drop k d ≡ drop k xs
  pub size : length d ≡ length xs

pub closes_first : (i : ℕ) (os xs : List ℕ) (used : ℕ) → Closing i os xs xs used 0 0
closes_first i os xs used = record { kept = refl; ahead = refl; size = refl }

module _ (i : ℕ) (os xs d : List ℕ) (used n k : ℕ) (x : Closing i os xs d used n k) where
  -- what stands at k still
  pub closes_read : k < used → get_or d k 0 ≡ get_or (take used xs) k 0
  closes_read h = here d ∙ ap (λ (l : List ℕ). get_or l 0 0) x.ahead ∙ sym (here xs) ∙ sym (get_or-take used xs k 0 h)
    where
      here : (l : List ℕ) → get_or l k 0 ≡ get_or (drop k l) 0 0
      here l = ap (λ (m : ℕ). get_or l m 0) (sym (add-zero k)) ∙ sym (get_or-drop k l 0 0)

  closes_on : n ≤ k → k < used → used ≤ length os → used ≤ length xs → Closing i os xs (set d n (get_or d k 0)) used (n + (1 - owns_one (get_or os k 0) i)) (k + 1)
  closes_on m h p q = record { kept = go (ℕ_discrete (get_or os k 0) i); ahead = behind; size = length-set d n (get_or d k 0) ∙ x.size }
    where
      behind : drop (k + 1) (set d n (get_or d k 0)) ≡ drop (k + 1) xs
      behind = drop-set-lt (k + 1) d n (get_or d k 0) (omega arith) ∙ sym (drop-drop 1 k d) ∙ ap (drop 1) x.ahead ∙ drop-drop 1 k xs

      opened : not_owned i (drop k os) (drop k (take used xs)) ≡ not_owned i (get_or os k 0 ∷ drop (k + 1) os) (get_or d k 0 ∷ drop (k + 1) (take used xs))
      opened = rw (drop-cons os k 0 (omega arith), drop-cons (take used xs) k 0 (omega (arith, length-take used xs)), add-one k, closes_read h)

      go : Dec (get_or os k 0 ≡ i)
          → take (n + (1 - owns_one (get_or os k 0) i)) (set d n (get_or d k 0)) ++ not_owned i (drop (k + 1) os) (drop (k + 1) (take used xs)) ≡ not_owned i os (take used xs)
      go (yes e) =
          rw (mine_counted e, add-zero n)
          (stored_not d n (get_or d k 0) (not_owned i (drop (k + 1) os) (drop (k + 1) (take used xs)))
          ∙ ap (λ (r : List ℕ). take n d ++ r) (sym (opened ∙ mine_out e (get_or d k 0) (drop (k + 1) os) (drop (k + 1) (take used xs))))
          ∙ x.kept)
      go (no e) =
          rw (other_counted e)
          (stored_there d n (get_or d k 0) (not_owned i (drop (k + 1) os) (drop (k + 1) (take used xs))) (omega (arith, x.size))
          ∙ ap (λ (r : List ℕ). take n d ++ r) (sym (opened ∙ other_kept e (get_or d k 0) (drop (k + 1) os) (drop (k + 1) (take used xs))))
          ∙ x.kept)

  pub closes_by : n ≤ k → k < used → used ≤ length os → used ≤ length xs → (r : ℕ) → r ≡ owns_one (get_or os k 0) i → Closing i os xs (set d n (get_or d k 0)) used (n + (1 - r)) (k + 1)
  closes_by m h p q r e = rw e (closes_on m h p q)

  pub closes_end : length os ≤ k → take n d ≡ not_owned i os (take used xs)
  unfolding not_owned
  closes_end h = sym (append-nil (take n d)) ∙ ap (λ (l : List ℕ). take n d ++ not_owned i l (drop k (take used xs))) (sym (drop_of_length-le os h)) ∙ x.kept

-- what is kept, with what the stream owned, is what was in use
pub closed_count : (i u : ℕ) (o d : List ℕ) (n : ℕ) → u ≤ length o → n ≤ length d → take n d ≡ not_owned i (take u o) (take u o) → n + owned_count i (take u o) ≡ u
closed_count i u o d n h l e = omega (arith, ap length e, length-take n d, length-take u o, kept_length i (take u o) (take u o) refl)

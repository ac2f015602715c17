-- Laws of the streams: what a change leaves in each of the ten, and that no change looks at a byte. Assumes nothing.
use Rattle.rules.proofs.Base.{◌≤◌, ℕ, suc, zero, ◌∙◌, refl, sym, ap, ap₂, ◌≡◌, true, Bool, false, true≢false, List, [], ◌++◌, ◌∷◌, append-nil, map, arith, leb, pos, ℤ, negsuc, length, get_or, set, length-set, List·getD-eq-default, List·getD-map, get_or-set_same, get_or-set_other, set-get_or, ℕ_discrete, dec_le, eqb-true, eqb-false, le-leb, lt-leb, ltb-true, ltb-false}
use mathlib.Core.List.{map-append}
use lib.Seq.{set_out}
use Rattle.rules.specs.Bytes.{Bytes}
use Rattle.rules.specs.Streams.{Streams, waiting_in, discards, placed, is_current, emptied, moved, joined, finished_streams, dropped_streams, diverted, Change, places, moves, finishes, drops, diverts, changed, changed_in_turn}

-- ---- the ten streams by their numbers

unfoldable pub stream_in : ℕ → Streams → Bytes
stream_in zero u = u.output
stream_in (suc i) u = get_or u.waiting i []

-- bytes behind those of stream i and one
abbrev behind : ℕ → Bytes → Streams → Streams
behind i w u = record { output = u.output; waiting = set u.waiting i (get_or u.waiting i [] ++ w); current = u.current }

-- what holds of both ways holds of what is placed there
placed_either : (P : Streams → Type 0) (i : ℕ) (w : Bytes) (u : Streams) → P (behind i w u) → P u → P (placed (pos (suc i)) w u)
unfolding placed
placed_either P i w u h k = go (leb (suc i) 9)
  where
    go : (b : Bool) → P (elim b as (λ _. Streams) [ true ↦ behind i w u | false ↦ u ])
    go true = h
    go false = k

-- a stream that discards takes nothing
pub placed_lost : (c : ℤ) → discards c ≡ true → (w : Bytes) (u : Streams) → placed c w u ≡ u
unfolding placed discards
placed_lost (negsuc n) h w u = refl
placed_lost (pos zero) h w u = absurd (omega (arith, ltb-true 9 0 h))
placed_lost (pos (suc j)) h w u = rw (lt-leb (suc j) 9 (ltb-true 9 (suc j) h), placed)

-- any other is one of the ten
pub one_of_ten : (c : ℤ) → discards c ≡ false → (n : ℕ) × (c ≡ pos n) × (n ≤ 9)
unfolding discards
one_of_ten (pos n) h = (n, refl, ltb-false 9 n h)
one_of_ten (negsuc n) h = absurd (true≢false h)

module _ (w : Bytes) (u : Streams) where
  pub placed_same : (n : ℕ) → n ≤ 9 → length u.waiting ≡ 9 → stream_in n (placed (pos n) w u) ≡ stream_in n u ++ w
  unfolding placed stream_in
  placed_same zero h e = refl
  placed_same (suc i) h e = rw (le-leb (suc i) 9 h, placed) (get_or-set_same u.waiting i (get_or u.waiting i [] ++ w) [] (omega arith))

  pub placed_other : (n m : ℕ) → n ≤ 9 → (m ≡ n → ⊥) → stream_in m (placed (pos n) w u) ≡ stream_in m u
  unfolding placed stream_in
  placed_other zero zero h d = absurd (d refl)
  placed_other zero (suc j) h d = refl
  placed_other (suc i) zero h d = rw (le-leb (suc i) 9 h, placed)
  placed_other (suc i) (suc j) h d = rw (le-leb (suc i) 9 h, placed) (get_or-set_other u.waiting i j (get_or u.waiting i [] ++ w) [] (λ e. d (ap suc e)))

-- which is current, and that nine wait, stays
pub placed_current : (c : ℤ) (w : Bytes) (u : Streams) → (placed c w u).current ≡ u.current
unfolding placed
placed_current (negsuc n) w u = refl
placed_current (pos zero) w u = refl
placed_current (pos (suc i)) w u = placed_either (λ z. z.current ≡ u.current) i w u refl refl

pub placed_nine : (c : ℤ) (w : Bytes) (u : Streams) → length (placed c w u).waiting ≡ length u.waiting
unfolding placed
placed_nine (negsuc n) w u = refl
placed_nine (pos zero) w u = refl
placed_nine (pos (suc i)) w u =
    placed_either (λ z. length z.waiting ≡ length u.waiting) i w u (length-set u.waiting i (get_or u.waiting i [] ++ w)) refl

-- no byte changes nothing
pub placed_none : (c : ℤ) (u : Streams) → placed c [] u ≡ u
unfolding placed
placed_none (negsuc n) u = refl
placed_none (pos zero) u = rw (append-nil u.output)
placed_none (pos (suc i)) u = placed_either (λ z. z ≡ u) i [] u (rw (append-nil (get_or u.waiting i []), set-get_or u.waiting i [])) refl

module _ (u : Streams) where
  pub emptied_same : (n : ℕ) → 1 ≤ n → n ≤ 9 → length u.waiting ≡ 9 → stream_in n (emptied n u) ≡ []
  unfolding emptied stream_in
  emptied_same zero h l e = absurd (omega arith)
  emptied_same (suc i) h l e = get_or-set_same u.waiting i [] [] (omega arith)

  pub emptied_other : (n m : ℕ) → (m ≡ n → ⊥) → stream_in m (emptied n u) ≡ stream_in m u
  unfolding emptied stream_in
  emptied_other zero m d = refl
  emptied_other (suc i) zero d = refl
  emptied_other (suc i) (suc j) d = get_or-set_other u.waiting i j [] [] (λ e. d (ap suc e))

  pub emptied_nine : (n : ℕ) → length (emptied n u).waiting ≡ length u.waiting
  unfolding emptied
  emptied_nine zero = refl
  emptied_nine (suc i) = length-set u.waiting i []

  pub emptied_current : (n : ℕ) → (emptied n u).current ≡ u.current
  unfolding emptied
  emptied_current zero = refl
  emptied_current (suc i) = refl

  waiting_stream : (n : ℕ) → 1 ≤ n → waiting_in n u ≡ stream_in n u
  unfolding waiting_in stream_in
  waiting_stream zero h = absurd (omega arith)
  waiting_stream (suc i) h = refl

  -- a move of the current stream, or of none of the nine, changes nothing
  pub moved_skips : (n : ℕ) → is_current n u.current ≡ true → moved n u ≡ u
  unfolding moved
  moved_skips n e = rw (e, moved)

  nothing-moved : (n : ℕ) → length u.waiting ≡ 9 → (1 ≤ n → n ≤ 9 → ⊥) → placed u.current (waiting_in n u) (emptied n u) ≡ u
  unfolding waiting_in emptied
  nothing-moved zero e d = placed_none u.current u
  nothing-moved (suc i) e d = go (dec_le 9 i)
    where
      go : Dec (9 ≤ i) → placed u.current (get_or u.waiting i []) (record { output = u.output; waiting = set u.waiting i []; current = u.current }) ≡ u
      go (yes p) = rw (List·getD-eq-default u.waiting [] {n = i} (omega arith), set_out u.waiting i [] (omega arith)) (placed_none u.current u)
      go (no q) = absurd (d (omega arith) (omega arith))

  pub moved_no_stream : (n : ℕ) → length u.waiting ≡ 9 → (1 ≤ n → n ≤ 9 → ⊥) → moved n u ≡ u
  unfolding moved
  moved_no_stream n e d = go (is_current n u.current)
    where
      go : (b : Bool) → elim b [ true ↦ u | false ↦ placed u.current (waiting_in n u) (emptied n u) ] ≡ u
      go true = refl
      go false = nothing-moved n e d

  -- another of the nine goes behind what the current stream has
  pub moved_other : (n : ℕ) → 1 ≤ n → is_current n u.current ≡ false → moved n u ≡ placed u.current (stream_in n u) (emptied n u)
  unfolding moved
  moved_other n h e = rw (e, moved) (ap (λ (w : Bytes). placed u.current w (emptied n u)) (waiting_stream n h))

pub moved_current : (n : ℕ) (u : Streams) → (moved n u).current ≡ u.current
unfolding moved
moved_current n u = go (is_current n u.current)
  where
    go : (b : Bool) → (elim b as (λ _. Streams) [ true ↦ u | false ↦ placed u.current (waiting_in n u) (emptied n u) ]).current ≡ u.current
    go true = refl
    go false = placed_current u.current (waiting_in n u) (emptied n u) ∙ emptied_current u n

-- what stood in stream n is placed in stream c: each of the ten is emptied, has more behind it, or is left
module _ (u : Streams) (nine : length u.waiting ≡ 9) (n : ℕ) (low : 1 ≤ n) (high : n ≤ 9) (c : ℤ) (apart : is_current n c ≡ false) where
  abbrev pub carried : Streams
  carried = placed c (stream_in n u) (emptied n u)

  pub data Carried (m : ℕ) : Type 0 where
    gone : m ≡ n → stream_in m carried ≡ [] → Carried m
    grown : (m ≡ n → ⊥) → is_current m c ≡ true → stream_in m carried ≡ stream_in m u ++ stream_in n u → Carried m
    left : (m ≡ n → ⊥) → is_current m c ≡ false → stream_in m carried ≡ stream_in m u → Carried m

  carried_off : (m : ℕ) → is_current m c ≡ false → stream_in m carried ≡ stream_in m (emptied n u)
  unfolding is_current discards
  carried_off m e = go c e (discards c) refl
    where
      go : (d : ℤ) → is_current m d ≡ false → (b : Bool) → discards d ≡ b → stream_in m (placed d (stream_in n u) (emptied n u)) ≡ stream_in m (emptied n u)
      go d f true q = ap (stream_in m) (placed_lost d q (stream_in n u) (emptied n u))
      go (pos k) f false q = placed_other (stream_in n u) (emptied n u) k m (ltb-false 9 k q) (eqb-false m k f)
      go (negsuc k) f false q = absurd (true≢false q)

  carried_to : (m : ℕ) → m ≤ 9 → is_current m c ≡ true → stream_in m carried ≡ stream_in m (emptied n u) ++ stream_in n u
  unfolding is_current
  carried_to m l e = go c e
    where
      go : (d : ℤ) → is_current m d ≡ true → stream_in m (placed d (stream_in n u) (emptied n u)) ≡ stream_in m (emptied n u) ++ stream_in n u
      go (pos k) f = rw (← (eqb-true m k f)) (placed_same (stream_in n u) (emptied n u) m l (emptied_nine u n ∙ nine))
      go (negsuc k) f = absurd (true≢false (sym f))

  pub carry : (m : ℕ) → m ≤ 9 → Carried m
  carry m l = go (ℕ_discrete m n) (is_current m c) refl
    where
      go : Dec (m ≡ n) → (b : Bool) → is_current m c ≡ b → Carried m
      go (yes e) b q =
          gone e (ap (λ (k : ℕ). stream_in k carried) e ∙ carried_off n apart ∙ emptied_same u n low high nine)
      go (no d) true q = grown d q (carried_to m l q ∙ ap (λ (w : Bytes). w ++ stream_in n u) (emptied_other u n m d))
      go (no d) false q = left d q (carried_off m q ∙ emptied_other u n m d)

pub diverted_stream : (n : ℤ) (u : Streams) (m : ℕ) → stream_in m (diverted n u) ≡ stream_in m u
unfolding stream_in diverted
diverted_stream n u zero = refl
diverted_stream n u (suc i) = refl

-- ---- no change looks at a byte: other values in the place of all bytes come through unchanged

module _ (v : ℕ → ℕ) where
  unfoldable pub valued : Streams → Streams
  valued u = record { output = map v u.output; waiting = map (map v) u.waiting; current = u.current }

  unfoldable pub valued_change : Change → Change
  valued_change (places w) = places (map v w)
  valued_change (moves n) = moves n
  valued_change finishes = finishes
  valued_change drops = drops
  valued_change (diverts n) = diverts n

  map-set : (ws : List Bytes) (i : ℕ) (w : Bytes) → map (map v) (set ws i w) ≡ set (map (map v) ws) i (map v w)
  map-set [] i w = refl
  map-set (x ∷ ws) zero w = refl
  map-set (x ∷ ws) (suc i) w = ap (◌∷◌ (map v x)) (map-set ws i w)

  waiting_valued : (ws : List Bytes) (i : ℕ) → map v (get_or ws i []) ≡ get_or (map (map v) ws) i []
  waiting_valued ws i = sym (List·getD-map (map v) ws i [])

  placed_valued : (c : ℤ) (w : Bytes) (u : Streams) → valued (placed c w u) ≡ placed c (map v w) (valued u)
  unfolding placed valued
  placed_valued (negsuc n) w u = refl
  placed_valued (pos zero) w u = rw (map-append v u.output w)
  placed_valued (pos (suc i)) w u = go (leb (suc i) 9)
    where
      go : (b : Bool)
          → valued (elim b as (λ _. Streams) [ true ↦ behind i w u | false ↦ u ]) ≡ elim b as (λ _. Streams) [ true ↦ behind i (map v w) (valued u) | false ↦ valued u ]
      go true = rw (map-set u.waiting i (get_or u.waiting i [] ++ w), map-append v (get_or u.waiting i []) w, waiting_valued u.waiting i)
      go false = refl

  emptied_valued : (n : ℕ) (u : Streams) → valued (emptied n u) ≡ emptied n (valued u)
  unfolding emptied valued
  emptied_valued zero u = refl
  emptied_valued (suc i) u = rw (map-set u.waiting i [])

  waits_valued : (n : ℕ) (u : Streams) → map v (waiting_in n u) ≡ waiting_in n (valued u)
  unfolding waiting_in valued
  waits_valued zero u = refl
  waits_valued (suc i) u = waiting_valued u.waiting i

  moved_valued : (n : ℕ) (u : Streams) → valued (moved n u) ≡ moved n (valued u)
  unfolding moved valued
  moved_valued n u = go (is_current n u.current)
    where
      go : (b : Bool)
          → valued (elim b [ true ↦ u | false ↦ placed u.current (waiting_in n u) (emptied n u) ])
          ≡ elim b [ true ↦ valued u | false ↦ placed u.current (waiting_in n (valued u)) (emptied n (valued u)) ]
      go true = refl
      go false = placed_valued u.current (waiting_in n u) (emptied n u) ∙ ap₂ (placed u.current) (waits_valued n u) (emptied_valued n u)

  joined_valued : (ws : List Bytes) → map v (joined ws) ≡ joined (map (map v) ws)
  unfolding joined
  joined_valued [] = refl
  joined_valued (w ∷ ws) = map-append v w (joined ws) ∙ ap (◌++◌ (map v w)) (joined_valued ws)

  changed_valued : (x : Change) (u : Streams) → valued (changed x u) ≡ changed (valued_change x) (valued u)
  unfolding changed valued_change
  changed_valued (places w) u = unfold valued in placed_valued u.current w u
  changed_valued (moves n) u = moved_valued n u
  changed_valued finishes u = unfold valued finished_streams in rw (map-append v u.output (joined u.waiting), joined_valued u.waiting)
  changed_valued drops u = unfold valued dropped_streams in refl
  changed_valued (diverts n) u = unfold valued diverted in refl

  pub turns_valued : (xs : List Change) (u : Streams) → valued (changed_in_turn xs u) ≡ changed_in_turn (map valued_change xs) (valued u)
  unfolding changed_in_turn
  turns_valued [] u = refl
  turns_valued (x ∷ xs) u = turns_valued xs (changed x u) ∙ ap (changed_in_turn (map valued_change xs)) (changed_valued x u)

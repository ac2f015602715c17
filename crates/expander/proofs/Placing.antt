-- Laws of the two passes that put the streams in order: a tally of each, where each begins, and each byte in its place. Assumes nothing.
use Rattle.rules.proofs.Base.{◌≤◌, ◌+◌, ℕ, ◌-◌, ◌<◌, suc, zero, ◌∙◌, refl, sym, ap, ◌≡◌, ap₂, List, [], ◌++◌, ◌∷◌, append_assoc, append-nil, add-zero, zero-add, add-suc, suc-add, add_assoc, add-one, ℕ_discrete, dec_lt, arith, length, drop, take, get_or, length-drop, set, drop_of_length-le, length-set, length-take, replicate, take-append-drop, get_or-replicate, length-take-le, drop-drop, get_or-take, take_all, take-suc-set, get_or-set_same, get_or-set_other, take-suc, drop-set-lt, take-set-le, drop-set-add}
use Rattle.rules.specs.Bytes.{Bytes}
use Rattle.rules.specs.Streams.{joined}
use Rattle.expander.specs.Streams.{owned_by, owns_one, owned_count, owned_below, sum_below, Ten, Owned, StreamsIn}
use Rattle.expander.proofs.OwnedBytes.{mine_counted, other_counted, mine_owned, other_owned, owned_none, owned_append, owned_within}
use Rattle.expander.proofs.Passes.{counts_on, counts_end}
use Rattle.expander.proofs.Waiting.{parts_long, part_numbered}
use Rattle.expander.proofs.Totals.{owned_from, below_next, none_below, all_below, waiting_from}

-- the tally: what each stream was given so far, and what is left
pub record Tallying (u : ℕ) (o counts : List ℕ) (k : ℕ) : Type 0 where
  pub size : length counts ≡ 10
  pub tallied : (i : ℕ) → i < 10 → get_or counts i 0 + owned_count i (drop k (take u o)) ≡ owned_count i (take u o)

pub tally_none : (u : ℕ) (o counts : List ℕ) → counts ≡ replicate 10 0 → Tallying u o counts 0
tally_none u o counts e =
    record { size = ap length e; tallied = λ i h. omega (arith, ap (λ (l : List ℕ). get_or l i 0) e ∙ get_or-replicate 10 i 0 0 h) }

module _ (u : ℕ) (o counts : List ℕ) (k : ℕ) (x : Tallying u o counts k) (l : u ≤ length o) where
  module _ (h : k < u) (s : get_or o k 0 < 10) where
    pub tally_on : Tallying u o (set counts (get_or o k 0) (get_or counts (get_or o k 0) 0 + 1)) (k + 1)
    tally_on = record { size = length-set counts (get_or o k 0) (get_or counts (get_or o k 0) 0 + 1) ∙ x.size; tallied = λ i p. go i p (ℕ_discrete (get_or o k 0) i) }
      where
        go : (i : ℕ) → i < 10 → Dec (get_or o k 0 ≡ i)
            → get_or (set counts (get_or o k 0) (get_or counts (get_or o k 0) 0 + 1)) i 0 + owned_count i (drop (k + 1) (take u o)) ≡ owned_count i (take u o)
        go i p (yes e) =
            rw (e, get_or-set_same counts i (get_or counts i 0 + 1) 0 (omega (arith, x.size)))
            (counts_on i u o k (get_or counts i 0) (x.tallied i p) h l 1 (sym (mine_counted e)))
        go i p (no e) =
            rw (get_or-set_other counts (get_or o k 0) i (get_or counts (get_or o k 0) 0 + 1) 0 (λ q. e (sym q)))
            (omega (arith, counts_on i u o k (get_or counts i 0) (x.tallied i p) h l 0 (sym (other_counted e))))

    -- a tally is not more than all
    pub tally_within : get_or counts (get_or o k 0) 0 + 1 ≤ u
    tally_within =
        let q = get_or o k 0 in
        omega (arith, counts_on q u o k (get_or counts q 0) (x.tallied q s) h l 1 (sym (mine_counted refl)), owned_within q (take u o), length-take u o)

  pub tally_end : u ≤ k → Ten (λ i. owned_count i (take u o)) counts
  tally_end h = record { ten = x.size; each = λ i p. counts_end i u o k (get_or counts i 0) (x.tallied i p) h }

-- sums: those before i are there, the others as they were
pub record Summing (before numbers : List ℕ) (sum i : ℕ) : Type 0 where
  pub size : length numbers ≡ 10
  pub total : sum ≡ sum_below i before
  pub there : (j : ℕ) → j < i → get_or numbers j 0 ≡ sum_below j before
  pub ahead : (j : ℕ) → i ≤ j → get_or numbers j 0 ≡ get_or before j 0

pub sums_none : (before : List ℕ) → length before ≡ 10 → Summing before before 0 0
unfolding sum_below
sums_none before h = record { size = h; total = refl; there = λ j p. absurd (omega arith); ahead = λ j p. refl }

sum_first : (i : ℕ) (ns : List ℕ) → sum_below (suc i) ns ≡ sum_below i ns + get_or ns i 0
unfolding sum_below
sum_first i ns = refl

sum_more : (i d : ℕ) (ns : List ℕ) → sum_below i ns ≤ sum_below (i + d) ns
sum_more i zero ns = rw (add-zero i) (omega arith)
sum_more i (suc d) ns = omega (arith, sum_more i d ns, ap (λ (m : ℕ). sum_below m ns) (add-suc i d), sum_first (i + d) ns)

pub sums_end : (before numbers : List ℕ) (sum i : ℕ) → Summing before numbers sum i → 10 ≤ i → Ten (λ j. sum_below j before) numbers
sums_end before numbers sum i x h = record { ten = x.size; each = λ j p. x.there j (omega arith) }

module _ (before numbers : List ℕ) (sum i : ℕ) (x : Summing before numbers sum i) (h : i < 10) where
  next_total : sum + get_or numbers i 0 ≡ sum_below (i + 1) before
  next_total =
      ap₂ (λ (a b : ℕ). a + b) x.total (x.ahead i (omega arith)) ∙ sym (sum_first i before) ∙ ap (λ (m : ℕ). sum_below m before) (sym (add-one i))

  pub sums_within : sum + get_or numbers i 0 ≤ sum_below 10 before
  sums_within =
      let e : i + 1 + (9 - i) ≡ 10 = omega arith in
      omega (arith, next_total, sum_more (i + 1) (9 - i) before, ap (λ (m : ℕ). sum_below m before) e)

  pub sums_on : Summing before (set numbers i sum) (sum + get_or numbers i 0) (i + 1)
  sums_on =
      record {
        size = length-set numbers i sum ∙ x.size;
        total = next_total;
        there = λ j p. go j p (ℕ_discrete j i);
        ahead = λ j p. get_or-set_other numbers i j sum 0 (λ e. omega arith) ∙ x.ahead j (omega arith);
      }
    where
      go : (j : ℕ) → j < i + 1 → Dec (j ≡ i) → get_or (set numbers i sum) j 0 ≡ sum_below j before
      go j p (yes e) = rw e (get_or-set_same numbers i sum 0 (omega (arith, x.size)) ∙ x.total)
      go j p (no e) = get_or-set_other numbers i j sum 0 e ∙ x.there j (omega arith)

-- the first bytes, and one more
count_append : (i : ℕ) (xs ys : List ℕ) → owned_count i (xs ++ ys) ≡ owned_count i xs + owned_count i ys
unfolding owned_count
count_append i [] ys = sym (zero-add (owned_count i ys))
count_append i (x ∷ xs) ys = ap (λ (n : ℕ). owns_one x i + n) (count_append i xs ys) ∙ sym (add_assoc (owns_one x i) (owned_count i xs) (owned_count i ys))

count_front : (i : ℕ) (os : List ℕ) (k : ℕ) → owned_count i (take k os) ≤ owned_count i os
count_front i os k = omega (arith, count_append i (take k os) (drop k os), ap (owned_count i) (take-append-drop k os))

count_next : (i : ℕ) (os : List ℕ) (k : ℕ) → k < length os → owned_count i (take (k + 1) os) ≡ owned_count i (take k os) + owns_one (get_or os k 0) i
unfolding owned_count
count_next i os k h =
    ap (λ (m : ℕ). owned_count i (take m os)) (add-one k)
    ∙ ap (owned_count i) (take-suc os k 0 h)
    ∙ count_append i (take k os) (get_or os k 0 ∷ [])
    ∙ ap (λ (n : ℕ). owned_count i (take k os) + n) (add-zero (owns_one (get_or os k 0) i))

owned_next : (i : ℕ) (os bs : List ℕ) (k : ℕ) → length os ≡ length bs → k < length os
    → owned_by i (take (k + 1) os) (take (k + 1) bs) ≡ owned_by i (take k os) (take k bs) ++ owned_by i (get_or os k 0 ∷ []) (get_or bs k 0 ∷ [])
owned_next i os bs k l h =
    rw (add-one k, take-suc os k 0 h, take-suc bs k 0 (omega arith))
    (owned_append i (take k os) (get_or os k 0 ∷ []) (take k bs) (get_or bs k 0 ∷ []) (omega (arith, length-take k os, length-take k bs)))

-- a store in the part from p on, and one outside of its first n
stored_next : (d : List ℕ) (p n v : ℕ) → p + n < length d → take (suc n) (drop p (set d (p + n) v)) ≡ take n (drop p d) ++ (v ∷ [])
stored_next d p n v h = ap (take (suc n)) (drop-set-add p d n v) ∙ take-suc-set (drop p d) n v (omega (arith, length-drop p d))

stored_after : (d : List ℕ) (p n at v : ℕ) → p + n ≤ at → take n (drop p (set d at v)) ≡ take n (drop p d)
stored_after d p n at v h =
    let e : at ≡ p + (at - p) = omega arith in
    ap (λ (m : ℕ). take n (drop p (set d m v))) e ∙ ap (take n) (drop-set-add p d (at - p) v) ∙ take-set-le n (drop p d) (at - p) v (omega arith)

stored_before : (d : List ℕ) (p n at v : ℕ) → at < p → take n (drop p (set d at v)) ≡ take n (drop p d)
stored_before d p n at v h = ap (take n) (drop-set-lt p d at v h)

-- placing: `next` says where each stream goes on, and what is placed of it stands before that
pub record Placing (os bs next dst : List ℕ) (k : ℕ) : Type 0 where
  pub ten : length next ≡ 10
  pub size : length dst ≡ length os
  pub goes : (i : ℕ) → i < 10 → get_or next i 0 ≡ owned_below i os + owned_count i (take k os)
  pub stands : (i : ℕ) → i < 10 → take (owned_count i (take k os)) (drop (owned_below i os) dst) ≡ owned_by i (take k os) (take k bs)

module _ (os bs next dst : List ℕ) (k : ℕ) (x : Placing os bs next dst k) (l : length os ≡ length bs) (full : owned_below 10 os ≡ length os) (h : k < length os) (s : get_or os k 0 < 10) where
  -- the place lies in the stream's own part
  place_in : get_or next (get_or os k 0) 0 < owned_below (get_or os k 0) os + owned_count (get_or os k 0) os
  place_in =
      let q = get_or os k 0 in
      omega (arith, x.goes q s, count_next q os k h, mine_counted {o = q} {i = q} refl, count_front q os (k + 1))

  place_within : get_or next (get_or os k 0) 0 < length dst
  place_within = omega (arith, place_in, below_next (get_or os k 0) 10 os s, x.size)

  place_goes : (i : ℕ) → i < 10 → Dec (get_or os k 0 ≡ i) → get_or (set next (get_or os k 0) (get_or next (get_or os k 0) 0 + 1)) i 0 ≡ owned_below i os + owned_count i (take (k + 1) os)
  place_goes i p (yes e) =
      rw (e, get_or-set_same next i (get_or next i 0 + 1) 0 (omega (arith, x.ten))) (omega (arith, x.goes i p, count_next i os k h, mine_counted e))
  place_goes i p (no e) =
      rw (get_or-set_other next (get_or os k 0) i (get_or next (get_or os k 0) 0 + 1) 0 (λ q. e (sym q))) (omega (arith, x.goes i p, count_next i os k h, other_counted e))

  place_stands : (i : ℕ) → i < 10 → Dec (get_or os k 0 ≡ i)
      → take (owned_count i (take (k + 1) os)) (drop (owned_below i os) (set dst (get_or next (get_or os k 0) 0) (get_or bs k 0))) ≡ owned_by i (take (k + 1) os) (take (k + 1) bs)
  place_stands i p (yes e) =
      let n = owned_count i (take k os) in
      let a = owned_below i os in
      let v = get_or bs k 0 in
      let f : owned_count i (take (k + 1) os) ≡ suc n = omega (arith, count_next i os k h, mine_counted e) in
      let g : get_or next (get_or os k 0) 0 ≡ a + n = ap (λ (m : ℕ). get_or next m 0) e ∙ x.goes i p in
      ap₂ (λ (m at : ℕ). take m (drop a (set dst at v))) f g
      ∙ stored_next dst a n v (omega (arith, place_within))
      ∙ ap₂ (λ (y z : List ℕ). y ++ z) (x.stands i p) (sym (mine_owned e v [] [] ∙ ap (λ (y : List ℕ). v ∷ y) (owned_none i [])))
      ∙ sym (owned_next i os bs k l h)
  place_stands i p (no e) =
      let n = owned_count i (take k os) in
      let a = owned_below i os in
      let v = get_or bs k 0 in
      let f : owned_count i (take (k + 1) os) ≡ n = omega (arith, count_next i os k h, other_counted e) in
      ap (λ (m : ℕ). take m (drop a (set dst (get_or next (get_or os k 0) 0) v))) f
      ∙ elsewhere (dec_lt i (get_or os k 0))
      ∙ x.stands i p
      ∙ sym (append-nil (owned_by i (take k os) (take k bs)))
      ∙ ap (λ (y : List ℕ). owned_by i (take k os) (take k bs) ++ y) (sym (other_owned e v [] [] ∙ owned_none i []))
      ∙ sym (owned_next i os bs k l h)
    where
      elsewhere : Dec (i < get_or os k 0)
          → take (owned_count i (take k os)) (drop (owned_below i os) (set dst (get_or next (get_or os k 0) 0) (get_or bs k 0))) ≡ take (owned_count i (take k os)) (drop (owned_below i os) dst)
      elsewhere (yes b) =
          stored_after dst (owned_below i os) (owned_count i (take k os)) (get_or next (get_or os k 0) 0) (get_or bs k 0)
          (omega (arith, count_front i os k, below_next i (get_or os k 0) os b, x.goes (get_or os k 0) s))
      elsewhere (no b) =
          stored_before dst (owned_below i os) (owned_count i (take k os)) (get_or next (get_or os k 0) 0) (get_or bs k 0)
          (omega (arith, place_in, below_next (get_or os k 0) i os (omega arith)))

  place_on : Placing os bs (set next (get_or os k 0) (get_or next (get_or os k 0) 0 + 1)) (set dst (get_or next (get_or os k 0) 0) (get_or bs k 0)) (k + 1)
  place_on =
      record {
        ten = length-set next (get_or os k 0) (get_or next (get_or os k 0) 0 + 1) ∙ x.ten;
        size = length-set dst (get_or next (get_or os k 0) 0) (get_or bs k 0) ∙ x.size;
        goes = λ i p. place_goes i p (ℕ_discrete (get_or os k 0) i);
        stands = λ i p. place_stands i p (ℕ_discrete (get_or os k 0) i);
      }

-- n streams from i on stand in order
in_order : (i n : ℕ) (os bs dst : List ℕ) → ((j : ℕ) → j < i + n → take (owned_count j os) (drop (owned_below j os) dst) ≡ owned_by j os bs)
    → joined (owned_from i n os bs) ++ drop (owned_below (i + n) os) dst ≡ drop (owned_below i os) dst
unfolding joined owned_from owned_below
in_order i zero os bs dst f = ap (λ (m : ℕ). drop (owned_below m os) dst) (add-zero i)
in_order i (suc n) os bs dst f =
    let c = owned_count i os in
    let d = drop (owned_below i os) dst in
    let more = joined (owned_from (suc i) n os bs) in
    append_assoc (owned_by i os bs) more (drop (owned_below (i + suc n) os) dst)
    ∙ ap (λ (m : ℕ). owned_by i os bs ++ (more ++ drop (owned_below m os) dst)) (add-suc i n ∙ sym (suc-add i n))
    ∙ ap₂ (λ (y z : List ℕ). y ++ z) (sym (f i (omega arith))) (in_order (suc i) n os bs dst (λ j p. f j (omega arith)) ∙ sym (drop-drop c (owned_below i os) dst))
    ∙ take-append-drop c d

-- the same where os and bs are the parts in use
pub place_first : (b o : List ℕ) (u : ℕ) (next dst : List ℕ) → u ≤ length o → length dst ≡ u → Ten (λ i. owned_below i (take u o)) next → Placing (take u o) (take u b) next dst 0
unfolding owned_count owned_by
place_first b o u next dst h e t =
    record { ten = t.ten; size = e ∙ sym (length-take-le u o h); goes = λ i p. t.each i p ∙ sym (add-zero (owned_below i (take u o))); stands = λ i p. refl }

module _ {b o : List ℕ} {u : ℕ} (w : Owned b o u) (next dst : List ℕ) (k : ℕ) (x : Placing (take u o) (take u b) next dst k) where
  parts_full : owned_below 10 (take u o) ≡ length (take u o)
  parts_full = all_below w ∙ sym (length-take-le u o w.in_owners)

  module _ (h : k < u) where
    at_front : k < length (take u o)
    at_front = omega (arith, length-take u o, w.in_owners)

    of_ten : get_or (take u o) k 0 < 10
    of_ten = omega (arith, (part_numbered w k at_front).high)

    pub place_room : get_or next (get_or o k 0) 0 < length dst
    place_room = rw (← get_or-take u o k 0 h) (place_within (take u o) (take u b) next dst k x (parts_long w) parts_full at_front of_ten)

    pub place_turn : Placing (take u o) (take u b) (set next (get_or o k 0) (get_or next (get_or o k 0) 0 + 1)) (set dst (get_or next (get_or o k 0) 0) (get_or b k 0)) (k + 1)
    place_turn =
        rw (← get_or-take u o k 0 h, ← get_or-take u b k 0 h) (place_on (take u o) (take u b) next dst k x (parts_long w) parts_full at_front of_ten)

pub place_end : {b o : List ℕ} {u : ℕ} {ws : List Bytes} → StreamsIn b o u ws → (next dst : List ℕ) (k : ℕ) → Placing (take u o) (take u b) next dst k → u ≤ k → dst ≡ joined ws
place_end {b} {o} {u} {ws} m next dst k x h =
    let os = take u o in
    let bs = take u b in
    let eo : take k os ≡ os = take_all k os (omega (arith, length-take u o)) in
    let eb : take k bs ≡ bs = take_all k bs (omega (arith, length-take u b)) in
    let f : (j : ℕ) → j < 10 → take (owned_count j os) (drop (owned_below j os) dst) ≡ owned_by j os bs =
    λ j p. ap (λ (l : List ℕ). take (owned_count j l) (drop (owned_below j os) dst)) (sym eo) ∙ x.stands j p ∙ ap₂ (owned_by j) eo eb in
    ap (λ (n : ℕ). drop n dst) (sym (none_below m.owned))
    ∙ sym (in_order 1 9 os bs dst f)
    ∙ ap (λ (l : List ℕ). joined (owned_from 1 9 os bs) ++ l) (drop_of_length-le dst {i = owned_below 10 os} (omega (arith, x.size, parts_full m.owned next dst k x)))
    ∙ append-nil (joined (owned_from 1 9 os bs))
    ∙ ap joined (sym (waiting_from m))

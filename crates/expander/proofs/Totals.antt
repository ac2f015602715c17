-- Laws of how much the streams own: of one, of those below one, of all. Assumes nothing.
use Rattle.rules.proofs.Base.{◌≤◌, ◌+◌, ℕ, ◌<◌, suc, zero, ◌∙◌, refl, sym, ap, ◌≡◌, List, [], ◌∷◌, add-zero, zero-add, add-suc, suc-add, ℕ_discrete, arith, length, take, get_or, length-take-le, ext_get_or}
use Rattle.rules.specs.Bytes.{Bytes}
use Rattle.rules.specs.Streams.{total_length}
use Rattle.expander.specs.Streams.{owned_by, owned_count, owned_below, sum_below, Ten, Owned, StreamsIn}
use Rattle.expander.proofs.OwnedBytes.{mine_counted, other_counted, count_first, owned_length}
use Rattle.expander.proofs.Waiting.{parts_long, part_numbered}

-- n streams from i on
unfoldable pub owned_from : ℕ → ℕ → List ℕ → Bytes → List Bytes
owned_from i zero os bs = []
owned_from i (suc n) os bs = owned_by i os bs ∷ owned_from (suc i) n os bs

from_length : (i n : ℕ) (os bs : List ℕ) → length (owned_from i n os bs) ≡ n
unfolding owned_from
from_length i zero os bs = refl
from_length i (suc n) os bs = ap suc (from_length (suc i) n os bs)

from_at : (i n : ℕ) (os bs : List ℕ) (k : ℕ) → k < n → get_or (owned_from i n os bs) k [] ≡ owned_by (i + k) os bs
unfolding owned_from
from_at i zero os bs k h = absurd (omega arith)
from_at i (suc n) os bs zero h = ap (λ (m : ℕ). owned_by m os bs) (sym (add-zero i))
from_at i (suc n) os bs (suc k) h = from_at (suc i) n os bs k (omega arith) ∙ ap (λ (m : ℕ). owned_by m os bs) (suc-add i k ∙ sym (add-suc i k))

-- no byte of another
pub count_none : (i : ℕ) (os : List ℕ) → ((k : ℕ) → k < length os → get_or os k 0 ≡ i → ⊥) → owned_count i os ≡ 0
unfolding owned_count
count_none i [] f = refl
count_none i (o ∷ os) f = rw (other_counted (f 0 (omega arith))) (omega (arith, count_none i os (λ k h. f (suc k) (omega arith))))

-- what is below i, with one byte more and with none; all of it, where every owner is below n
below_out : (n o : ℕ) (os : List ℕ) → n ≤ o → owned_below n (o ∷ os) ≡ owned_below n os
unfolding owned_below
below_out zero o os h = refl
below_out (suc n) o os h = rw (count_first n o os, other_counted {o = o} {i = n} (λ e. omega arith)) (omega (arith, below_out n o os (omega arith)))

below_in : (n o : ℕ) (os : List ℕ) → o < n → owned_below n (o ∷ os) ≡ suc (owned_below n os)
unfolding owned_below
below_in zero o os h = absurd (omega arith)
below_in (suc n) o os h = go (ℕ_discrete o n) (below_in n o os)
  where
    go : Dec (o ≡ n) → (o < n → owned_below n (o ∷ os) ≡ suc (owned_below n os)) → owned_below n (o ∷ os) + owned_count n (o ∷ os) ≡ suc (owned_below n os + owned_count n os)
    go (yes e) f = rw (count_first n o os, mine_counted e) (omega (arith, below_out n o os (omega arith)))
    go (no e) f = rw (count_first n o os, other_counted e) (omega (arith, f (omega arith)))

below_none : (n : ℕ) → owned_below n [] ≡ 0
unfolding owned_below owned_count
below_none zero = refl
below_none (suc n) = omega (arith, below_none n)

pub below_all : (n : ℕ) (os : List ℕ) → ((k : ℕ) → k < length os → get_or os k 0 < n) → owned_below n os ≡ length os
below_all n [] f = below_none n
below_all n (o ∷ os) f = below_in n o os (f 0 (omega arith)) ∙ ap suc (below_all n os (λ k h. f (suc k) (omega arith)))

-- a stream ends before one above it begins
pub below_next : (i j : ℕ) (os : List ℕ) → i < j → owned_below i os + owned_count i os ≤ owned_below j os
unfolding owned_below
below_next i zero os h = absurd (omega arith)
below_next i (suc j) os h = go (ℕ_discrete i j) (below_next i j os)
  where
    go : Dec (i ≡ j) → (i < j → owned_below i os + owned_count i os ≤ owned_below j os) → owned_below i os + owned_count i os ≤ owned_below j os + owned_count j os
    go (yes e) f = rw e (omega arith)
    go (no e) f = omega (arith, f (omega arith))

-- counts that stand in a list
sum_counts : (n : ℕ) (ns os : List ℕ) → n ≤ 10 → Ten (λ i. owned_count i os) ns → sum_below n ns ≡ owned_below n os
unfolding sum_below owned_below
sum_counts zero ns os h t = refl
sum_counts (suc n) ns os h t = omega (arith, t.each n h, sum_counts n ns os (omega arith) t)

pub begins_each : (ns next os : List ℕ) → Ten (λ i. owned_count i os) ns → Ten (λ i. sum_below i ns) next → Ten (λ i. owned_below i os) next
begins_each ns next os t f = record { ten = f.ten; each = λ i h. f.each i h ∙ sum_counts i ns os (omega arith) t }

-- the lengths of n streams from i on
from_total : (i n : ℕ) (os bs : List ℕ) → length os ≡ length bs → total_length (owned_from i n os bs) + owned_below i os ≡ owned_below (i + n) os
unfolding owned_from total_length owned_below
from_total i zero os bs h = zero-add (owned_below i os) ∙ ap (λ (m : ℕ). owned_below m os) (sym (add-zero i))
from_total i (suc n) os bs h =
    let e : owned_below (suc i + n) os ≡ owned_below (i + suc n) os = ap (λ (m : ℕ). owned_below m os) (suc-add i n ∙ sym (add-suc i n)) in
    omega (arith, owned_length i os bs h, from_total (suc i) n os bs h)

module _ {b o : List ℕ} {u : ℕ} (x : Owned b o u) where
  -- no byte is stream 0's, and all are of the streams below 10
  pub none_below : owned_below 1 (take u o) ≡ 0
  unfolding owned_below
  none_below =
      let f : (k : ℕ) → k < length (take u o) → get_or (take u o) k 0 ≡ 0 → ⊥ = λ k h e. omega (arith, (part_numbered x k h).low) in
      omega (arith, count_none 0 (take u o) f)

  pub all_below : owned_below 10 (take u o) ≡ u
  all_below =
      let f : (k : ℕ) → k < length (take u o) → get_or (take u o) k 0 < 10 = λ k h. omega (arith, (part_numbered x k h).high) in
      below_all 10 (take u o) f ∙ length-take-le u o x.in_owners

  pub counts_all : (ns : List ℕ) → Ten (λ i. owned_count i (take u o)) ns → sum_below 10 ns ≡ u
  counts_all ns t = sum_counts 10 ns (take u o) (omega arith) t ∙ all_below

module _ {b o : List ℕ} {u : ℕ} {ws : List Bytes} (m : StreamsIn b o u ws) where
  pub waiting_from : ws ≡ owned_from 1 9 (take u o) (take u b)
  waiting_from =
      ext_get_or [] ws (owned_from 1 9 (take u o) (take u b)) (m.nine ∙ sym (from_length 1 9 (take u o) (take u b)))
      (λ i h.
      let l : i < 9 = omega (arith, m.nine) in
      let e : suc i ≡ 1 + i = omega arith in
      m.texts i l ∙ ap (λ (n : ℕ). owned_by n (take u o) (take u b)) e ∙ sym (from_at 1 9 (take u o) (take u b) i l))

  -- what is in use is what waits
  pub used_is : total_length ws ≡ u
  used_is = ap total_length waiting_from ∙ omega (arith, from_total 1 9 (take u o) (take u b) (parts_long m.owned), none_below m.owned, all_below m.owned)

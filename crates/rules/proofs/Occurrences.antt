-- How often a number occurs in a list, and lists whose members stand in an order. Assumes nothing.
use Rattle.rules.proofs.Base.{◌≤◌, ◌<◌, ◌+◌, ℕ, suc, zero, refl, ◌≡◌, cond, List, [], ◌++◌, ◌∷◌, arith, eqb, length, get_or, eq-eqb, ne_eqb, ℕ_discrete}
use Rattle.rules.specs.History.{counting_from, occurrences, InOrder}

-- ---- occurrences

pub occurrences-append : (k : ℕ) (xs ys : List ℕ) → occurrences k (xs ++ ys) ≡ occurrences k xs + occurrences k ys
unfolding occurrences
occurrences-append k [] ys = omega arith
occurrences-append k (x ∷ xs) ys = omega (arith, occurrences-append k xs ys)

-- those that count from g on occur once each
pub counting_below : (k g n : ℕ) → k < g → occurrences k (counting_from g n) ≡ 0
unfolding occurrences counting_from
counting_below k g zero h = refl
counting_below k g (suc n) h = rw (ne_eqb k g (λ e. omega arith)) (omega (arith, counting_below k (suc g) n (omega arith)))

pub counting_above : (k g n : ℕ) → g + n ≤ k → occurrences k (counting_from g n) ≡ 0
unfolding occurrences counting_from
counting_above k g zero h = refl
counting_above k g (suc n) h = rw (ne_eqb k g (λ e. omega arith)) (omega (arith, counting_above k (suc g) n (omega arith)))

pub counting_once : (k g n : ℕ) → g ≤ k → k < g + n → occurrences k (counting_from g n) ≡ 1
unfolding occurrences counting_from
counting_once k g zero h l = absurd (omega arith)
counting_once k g (suc n) h l = go (ℕ_discrete k g) (λ p q. counting_once k (suc g) n p q)
  where
    go : Dec (k ≡ g) → (suc g ≤ k → k < suc g + n → occurrences k (counting_from (suc g) n) ≡ 1) → cond (eqb k g) 1 0 + occurrences k (counting_from (suc g) n) ≡ 1
    go (yes e) f = rw (eq-eqb k g e) (omega (arith, counting_below k (suc g) n (omega arith)))
    go (no d) f = rw (ne_eqb k g d) (omega (arith, f (omega arith) (omega arith)))

-- ---- all members

abbrev pub All : (ℕ → Type 0) → List ℕ → Type 0
All P [] = Unit {0}
All P (x ∷ xs) = P x × All P xs

pub all_append : (P : ℕ → Type 0) (xs ys : List ℕ) → All P xs → All P ys → All P (xs ++ ys)
all_append P [] ys h k = k
all_append P (x ∷ xs) ys h k = (h.0, all_append P xs ys h.1 k)

pub all_are : {P Q : ℕ → Type 0} (xs : List ℕ) → ((k : ℕ) → P k → Q k) → All P xs → All Q xs
all_are [] f h = tt
all_are (x ∷ xs) f h = (f x h.0, all_are xs f h.1)

-- what holds of each number that occurs
pub all_occurring : {P : ℕ → Type 0} (xs : List ℕ) → ((k : ℕ) → 1 ≤ occurrences k xs → P k) → All P xs
unfolding occurrences
all_occurring [] f = tt
all_occurring (x ∷ xs) f = (f x (rw (eq-eqb x x refl) (omega arith)), all_occurring xs (λ k h. f k (omega arith)))

pub all_counting : (g n : ℕ) → All (λ k. g ≤ k) (counting_from g n)
unfolding counting_from
all_counting g zero = tt
all_counting g (suc n) = (omega arith, all_are (counting_from (suc g) n) (λ k h. omega arith) (all_counting (suc g) n))

all_at : (P : ℕ → Type 0) (xs : List ℕ) (i : ℕ) → i < length xs → All P xs → P (get_or xs i 0)
all_at P [] i h a = absurd (omega arith)
all_at P (x ∷ xs) zero h a = a.0
all_at P (x ∷ xs) (suc i) h a = all_at P xs i (omega arith) a.1

-- ---- order

-- each member has the relation to all behind it
abbrev pub Ordered : (ℕ → ℕ → Type 0) → List ℕ → Type 0
Ordered R [] = Unit {0}
Ordered R (x ∷ xs) = All (R x) xs × Ordered R xs

pub ordered_append : (R : ℕ → ℕ → Type 0) (xs ys : List ℕ) → Ordered R xs → Ordered R ys → All (λ x. All (R x) ys) xs → Ordered R (xs ++ ys)
ordered_append R [] ys h k c = k
ordered_append R (x ∷ xs) ys h k c = (all_append (R x) xs ys h.0 c.0, ordered_append R xs ys h.1 k c.1)

-- another relation, which follows from the first for members of a kind
pub ordered_are : {P : ℕ → Type 0} {R S : ℕ → ℕ → Type 0} (xs : List ℕ) → ((j k : ℕ) → P j → P k → R j k → S j k) → All P xs → Ordered R xs → Ordered S xs
ordered_are [] f a h = tt
ordered_are {P} {R} {S} (x ∷ xs) f a h = (each xs a.1 h.0, ordered_are xs f a.1 h.1)
  where
    each : (ys : List ℕ) → All P ys → All (R x) ys → All (S x) ys
    each [] b c = tt
    each (y ∷ ys) b c = (f x y a.0 b.0 c.0, each ys b.1 c.1)

-- those that count from g on rise
pub ordered_counting : {R : ℕ → ℕ → Type 0} (g n : ℕ) → ((j k : ℕ) → j < k → R j k) → Ordered R (counting_from g n)
unfolding counting_from
ordered_counting g zero f = tt
ordered_counting g (suc n) f = (all_are (counting_from (suc g) n) (λ k h. f g k h) (all_counting (suc g) n), ordered_counting (suc g) n f)

-- by the places of the members
pub in_order : (R : ℕ → ℕ → Type 0) (xs : List ℕ) → Ordered (λ j k. R j k → j < k) xs → InOrder R xs
in_order R [] h i j l m = absurd (omega arith)
in_order R (x ∷ xs) h zero zero l m = absurd (omega arith)
in_order R (x ∷ xs) h zero (suc j) l m = all_at (λ k. R x k → x < k) xs j (omega arith) h.0
in_order R (x ∷ xs) h (suc i) zero l m = absurd (omega arith)
in_order R (x ∷ xs) h (suc i) (suc j) l m = in_order R xs h.1 i j (omega arith) (omega arith)

-- Laws of the predefined names, of their numbers and of their buckets. Assumes nothing.
use Rattle.rules.proofs.Base.{◌≤◌, ◌+◌, ℕ, ◌<◌, suc, ◌∙◌, refl, sym, ap, ◌≡◌, true, Bool, false, true≢false, ◌&&◌, and-eq-true_iff, Some, None, Option, none-some, same_Some, List, [], ◌∷◌, map, arith, eqb, length, eq-eqb, ne_eqb, eqb-true, eqb-false}
use Rattle.std.specs.Prelude.{IfSome}
use Rattle.std.specs.Bool.{then_some}
use Rattle.std.specs.Option.{option_and_then}
use Rattle.rules.specs.Bytes.{Bytes, bytes_of, same_bytes}
use Rattle.rules.specs.Table.{predefined_names, number_from, predefined_number}
use Rattle.rules.proofs.SameBytes.{same_is}
use Rattle.hashing.specs.Hashing.{hash_on, hashed, bucket_at, bucket_of}
use Rattle.builtins.specs.Numbers.{macro_count, first_in, candidate_in, has_number}
use Rattle.builtins.proofs.Arms.{arm_of, Avoids, last_arm}

-- ---- the buckets of the predefined names, in their order

abbrev pub buckets : List ℕ
buckets = 33 ∷ 149 ∷ 95 ∷ 24 ∷ 100 ∷ 92 ∷ 119 ∷ 137 ∷ 140 ∷ 31 ∷ 188 ∷ 8 ∷ 182 ∷ 45 ∷ 124 ∷ 180 ∷ 47 ∷ 21 ∷ 161 ∷ 78 ∷ 98 ∷ 73 ∷ 102 ∷ 170 ∷ 62 ∷ 65 ∷ 152 ∷ []

buckets_are : map bucket_of predefined_names ≡ buckets
unfolding predefined_names bytes_of bucket_of bucket_at hashed hash_on
buckets_are = refl

-- the arms of `candidate`: buckets with their numbers, from j
abbrev pub numbers_from : ℕ → List ℕ → List (ℕ × Option ℕ)
numbers_from j [] = []
numbers_from j (b ∷ bs) = (b, Some j) ∷ numbers_from (suc j) bs

abbrev pub numbers : List (ℕ × Option ℕ)
numbers = numbers_from 1 buckets

abbrev place : ℕ → Option ℕ
place b = arm_of None b numbers

first_place_lem : (b j : ℕ) (ns : List Bytes) → first_in b j ns ≡ arm_of None b (numbers_from j (map bucket_of ns))
unfolding first_in
first_place_lem b j [] = refl
first_place_lem b j (n ∷ ns) = ap (λ r. elim (eqb b (bucket_of n)) [ true ↦ Some j | false ↦ r ]) (first_place_lem b (suc j) ns)

candidate_place : (b : ℕ) → candidate_in b ≡ place b
unfolding candidate_in
candidate_place b = first_place_lem b 1 predefined_names ∙ ap (λ (bs : List ℕ). arm_of None b (numbers_from 1 bs)) buckets_are

-- an arm, and the last
pub in_bucket : {b x : ℕ} {r : Option ℕ} → b ≡ x → r ≡ arm_of None x numbers → r ≡ candidate_in b
in_bucket {b} e h = h ∙ ap place (sym e) ∙ sym (candidate_place b)

pub in_none : {b : ℕ} → Avoids (Unit {0}) b numbers → None ≡ candidate_in b
in_none {b} a = last_arm b numbers a ∙ sym (candidate_place b)

-- it is this number
abbrev is_it : Option ℕ → ℕ → Bool
is_it o k = elim o [ None ↦ false | Some j ↦ eqb j k ]

it_is : (o : Option ℕ) (k : ℕ) → is_it o k ≡ true → o ≡ Some k
it_is None k e = absurd (true≢false (sym e))
it_is (Some j) k e = ap Some (eqb-true j k e)

-- each bucket of a list, counted from j, has its own place among all: so no two predefined names share a bucket
abbrev own_places : ℕ → List ℕ → Bool
own_places j [] = true
own_places j (x ∷ xs) = is_it (place x) j && own_places (suc j) xs

alone : own_places 1 (map bucket_of predefined_names) ≡ true
alone = rw buckets_are

-- ---- the name of a number

count : length predefined_names ≡ macro_count
unfolding predefined_names
count = refl

-- the arms of `is_named`: whether w is one of some names that are numbered from j
abbrev pub tests_from : Bytes → ℕ → List Bytes → List (ℕ × Bool)
tests_from w j [] = []
tests_from w j (n ∷ ns) = (j, same_bytes w n) ∷ tests_from w (suc j) ns

abbrev is_nth : Bytes → ℕ → ℕ → List Bytes → Bool
is_nth w k j ns = arm_of false k (tests_from w j ns)

module _ (w : Bytes) where
  -- the number of w, if it is predefined
  abbrev own : Option ℕ
  own = place (bucket_of w)

  -- what is known of the k-th
  record Nth (k j : ℕ) (ns : List Bytes) : Type 0 where
    at : own ≡ Some k
    least : j ≤ k
    most : k < j + length ns

  module _ (n : Bytes) (j : ℕ) (ns : List Bytes) (a : own_places j (map bucket_of (n ∷ ns)) ≡ true) where
    both : (is_it (place (bucket_of n)) j ≡ true) × (own_places (suc j) (map bucket_of ns) ≡ true)
    both = (and-eq-true_iff (is_it (place (bucket_of n)) j) (own_places (suc j) (map bucket_of ns))).0 a

    first : same_bytes w n ≡ true → own ≡ Some j
    first e = ap (λ (v : Bytes). place (bucket_of v)) (same_is w n e) ∙ it_is (place (bucket_of n)) j both.0

  nth : (k j : ℕ) (ns : List Bytes) → own_places j (map bucket_of ns) ≡ true → is_nth w k j ns ≡ true → Nth k j ns
  nth k j [] a e = absurd (true≢false (sym e))
  nth k j (n ∷ ns) a e = go (eqb k j) refl e (nth k (suc j) ns (both n j ns a).1)
    where
      go : (t : Bool) → eqb k j ≡ t → elim t [ true ↦ same_bytes w n | false ↦ is_nth w k (suc j) ns ] ≡ true → (is_nth w k (suc j) ns ≡ true → Nth k (suc j) ns) → Nth k j (n ∷ ns)
      go true q e f = let z = eqb-true k j q in record { at = first n j ns a e ∙ ap Some (sym z); least = omega arith; most = omega arith }
      go false q e f = record { at = (f e).at; least = omega (arith, (f e).least); most = omega (arith, (f e).most) }

  -- the number of the first of some names that w is, by the number that its bucket has
  number_none : own ≡ None → (j : ℕ) (ns : List Bytes) → own_places j (map bucket_of ns) ≡ true → number_from j w ns ≡ None
  unfolding number_from
  number_none o j [] a = refl
  number_none o j (n ∷ ns) a = go (same_bytes w n) refl (number_none o (suc j) ns (both n j ns a).1)
    where
      go : (t : Bool) → same_bytes w n ≡ t → number_from (suc j) w ns ≡ None → ◌≡◌ {A = Option ℕ} (elim t [ true ↦ Some j | false ↦ number_from (suc j) w ns ]) None
      go true p h = absurd (none-some j (sym o ∙ first n j ns a p))
      go false p h = h

  number_nth : {k : ℕ} → own ≡ Some k → (j : ℕ) (ns : List Bytes) → own_places j (map bucket_of ns) ≡ true → number_from j w ns ≡ then_some (is_nth w k j ns) k
  unfolding number_from
  number_nth o j [] a = refl
  number_nth {k} o j (n ∷ ns) a = go (same_bytes w n) (eqb k j) (is_nth w k (suc j) ns) refl refl refl (number_nth o (suc j) ns (both n j ns a).1)
    where
      same : same_bytes w n ≡ true → k ≡ j
      same p = same_Some k j (sym o ∙ first n j ns a p)

      go : (t u v : Bool) → same_bytes w n ≡ t → eqb k j ≡ u → is_nth w k (suc j) ns ≡ v → number_from (suc j) w ns ≡ then_some v k
          → elim t [ true ↦ Some j | false ↦ number_from (suc j) w ns ] ≡ then_some (elim u [ true ↦ t | false ↦ v ]) k
      go true true v p q r h = ap Some (sym (eqb-true k j q))
      go true false v p q r h = absurd (eqb-false k j q (same p))
      go false true true p q r h = absurd (let e = nth k (suc j) ns (both n j ns a).1 r in omega (arith, eqb-true k j q, e.least))
      go false true false p q r h = h
      go false false v p q r h = h

  number_is : (o : Option ℕ) → own ≡ o → predefined_number w ≡ option_and_then (λ k. then_some (is_nth w k 1 predefined_names) k) o
  unfolding predefined_number
  number_is None e = number_none e 1 predefined_names alone
  number_is (Some k) e = number_nth e 1 predefined_names alone

  -- the name has the number k just where it is the k-th
  has_nth : (k : ℕ) → has_number w k ≡ is_nth w k 1 predefined_names
  unfolding has_number
  has_nth k = rw (number_is own refl, has_number) (go own refl)
    where
      go : (o : Option ℕ) → own ≡ o → ◌≡◌ {A = Bool} (is_it (option_and_then (λ i. then_some (is_nth w i 1 predefined_names) i) o) k) (is_nth w k 1 predefined_names)
      go None e = not_nth (is_nth w k 1 predefined_names) refl
        where
          not_nth : (t : Bool) → is_nth w k 1 predefined_names ≡ t → false ≡ t
          not_nth true q = absurd (none-some k (sym e ∙ (nth k 1 predefined_names alone q).at))
          not_nth false q = refl
      go (Some i) e = at (is_nth w i 1 predefined_names) (is_nth w k 1 predefined_names) refl refl
        where
          at : (t u : Bool) → is_nth w i 1 predefined_names ≡ t → is_nth w k 1 predefined_names ≡ u → ◌≡◌ {A = Bool} (is_it (then_some t i) k) u
          at true true p q = eq-eqb i k (same_Some i k (sym e ∙ (nth k 1 predefined_names alone q).at))
          at true false p q = ne_eqb i k (λ h. true≢false (sym p ∙ ap (λ (m : ℕ). is_nth w m 1 predefined_names) h ∙ q))
          at false true p q = absurd (true≢false (sym q ∙ sym (ap (λ (m : ℕ). is_nth w m 1 predefined_names) (same_Some i k (sym e ∙ (nth k 1 predefined_names alone q).at))) ∙ p))
          at false false p q = refl

  -- the candidate of a name's bucket is its number, or it has none
  pub confirmed_is : {o r : Option ℕ} → o ≡ candidate_in (bucket_of w) → r ≡ option_and_then (λ k. then_some (has_number w k) k) o → r ≡ predefined_number w
  confirmed_is {o} e h = h ∙ go o (sym (e ∙ candidate_place (bucket_of w)))
    where
      go : (o : Option ℕ) → own ≡ o → option_and_then (λ k. then_some (has_number w k) k) o ≡ predefined_number w
      go None h = sym (number_is None h)
      go (Some k) h = ap (λ (t : Bool). then_some t k) (has_nth k) ∙ sym (number_is (Some k) h)

-- the numbers of the predefined names are 1 to 27
pub number_few : (w : Bytes) {k : ℕ} → predefined_number w ≡ Some k → (0 < k) × (k ≤ macro_count)
unfolding predefined_number number_from
number_few w {k} e = let n = go 1 predefined_names e in (n.0, omega (arith, n.1, count))
  where
    go : (j : ℕ) (ns : List Bytes) → number_from j w ns ≡ Some k → (j ≤ k) × (k < j + length ns)
    go j [] e = absurd (none-some k e)
    go j (n ∷ ns) e = at (same_bytes w n) e (go (suc j) ns)
      where
        at : (t : Bool) → elim t [ true ↦ Some j | false ↦ number_from (suc j) w ns ] ≡ Some k → (number_from (suc j) w ns ≡ Some k → (suc j ≤ k) × (k < suc j + length ns)) → (j ≤ k) × (k < j + length (n ∷ ns))
        at true e f = let z : j ≡ k = same_Some j k e in (omega arith, omega arith)
        at false e f = let r = f e in (omega (arith, r.0), omega (arith, r.1))

-- the candidate of a name's bucket is its number, which is one of 1 to 27, or it has none
pub confirmed_number : (w : Bytes) {o r : Option ℕ} → o ≡ candidate_in (bucket_of w) → r ≡ option_and_then (λ k. then_some (has_number w k) k) o
    → (r ≡ predefined_number w) × IfSome r (λ k. (0 < k) × (k ≤ macro_count))
confirmed_number w {o} {r} e h = let is = confirmed_is w e h in (is, few r is)
  where
    few : (r : Option ℕ) → r ≡ predefined_number w → IfSome r (λ k. (0 < k) × (k ≤ macro_count))
    few None e = record {}
    few (Some k) e = number_few w (sym e)

-- and so are those of the buckets
pub candidate_few : (b : ℕ) {k : ℕ} → candidate_in b ≡ Some k → (0 < k) × (k ≤ macro_count)
unfolding candidate_in first_in
candidate_few b {k} e = let n = go 1 predefined_names e in (n.0, omega (arith, n.1, count))
  where
    go : (j : ℕ) (ns : List Bytes) → first_in b j ns ≡ Some k → (j ≤ k) × (k < j + length ns)
    go j [] e = absurd (none-some k e)
    go j (n ∷ ns) e = at (eqb b (bucket_of n)) e (go (suc j) ns)
      where
        at : (t : Bool) → elim t [ true ↦ Some j | false ↦ first_in b (suc j) ns ] ≡ Some k → (first_in b (suc j) ns ≡ Some k → (suc j ≤ k) × (k < suc j + length ns)) → (j ≤ k) × (k < j + length (n ∷ ns))
        at true e f = let z : j ≡ k = same_Some j k e in (omega arith, omega arith)
        at false e f = let r = f e in (omega (arith, r.0), omega (arith, r.1))

-- an arm, and the last
pub named : (w : Bytes) {k x : ℕ} {r : Bool} → k ≡ x → r ≡ arm_of false x (tests_from w 1 predefined_names) → r ≡ has_number w k
named w {k} e h = h ∙ ap (λ (i : ℕ). is_nth w i 1 predefined_names) (sym e) ∙ sym (has_nth w k)

pub named_none : (w : Bytes) (k : ℕ) → Avoids (Unit {0}) k (tests_from w 1 predefined_names) → false ≡ has_number w k
named_none w k a = last_arm k (tests_from w 1 predefined_names) a ∙ sym (has_nth w k)

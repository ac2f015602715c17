-- Laws of the bytes that a stream owns, over plain lists: `os` are owners, `bs` the bytes beside them. Assumes nothing.
use Rattle.rules.proofs.Base.{◌≤◌, ◌+◌, ℕ, ◌<◌, suc, zero, ◌∙◌, refl, sym, ap, ◌≡◌, true, Bool, false, cond, List, [], ◌++◌, ◌∷◌, suc_inj, ℕ_discrete, arith, eqb, length, get_or, replicate, eq-eqb, ne_eqb}
use Rattle.std.specs.List.{filter}
use Rattle.rules.specs.Bytes.{Bytes}
use Rattle.expander.specs.Streams.{owned_by, owns_one, owned_count}

-- the elements beside owners other than i, in order
unfoldable pub not_owned : ℕ → List ℕ → List ℕ → List ℕ
not_owned i [] xs = []
not_owned i (o ∷ os) [] = []
not_owned i (o ∷ os) (x ∷ xs) = elim (eqb o i) [ true ↦ not_owned i os xs | false ↦ x ∷ not_owned i os xs ]

-- one byte
module _ {o i : ℕ} (e : o ≡ i) where
  pub mine_counted : owns_one o i ≡ 1
  unfolding owns_one
  mine_counted = rw (eq-eqb o i e, owns_one)

  pub mine_owned : (b : ℕ) (os bs : List ℕ) → owned_by i (o ∷ os) (b ∷ bs) ≡ b ∷ owned_by i os bs
  unfolding owned_by
  mine_owned b os bs = rw (eq-eqb o i e, owned_by)

  pub mine_out : (x : ℕ) (os xs : List ℕ) → not_owned i (o ∷ os) (x ∷ xs) ≡ not_owned i os xs
  unfolding not_owned
  mine_out x os xs = rw (eq-eqb o i e, not_owned)

module _ {o i : ℕ} (e : o ≡ i → ⊥) where
  pub other_counted : owns_one o i ≡ 0
  unfolding owns_one
  other_counted = rw (ne_eqb o i e, owns_one)

  pub other_owned : (b : ℕ) (os bs : List ℕ) → owned_by i (o ∷ os) (b ∷ bs) ≡ owned_by i os bs
  unfolding owned_by
  other_owned b os bs = rw (ne_eqb o i e, owned_by)

  pub other_kept : (x : ℕ) (os xs : List ℕ) → not_owned i (o ∷ os) (x ∷ xs) ≡ x ∷ not_owned i os xs
  unfolding not_owned
  other_kept x os xs = rw (ne_eqb o i e, not_owned)

-- none, and some behind others
pub owned_none : (i : ℕ) (bs : List ℕ) → owned_by i [] bs ≡ []
unfolding owned_by
owned_none i bs = refl

pub owned_append : (i : ℕ) (os os' bs bs' : List ℕ) → length os ≡ length bs → owned_by i (os ++ os') (bs ++ bs') ≡ owned_by i os bs ++ owned_by i os' bs'
unfolding owned_by
owned_append i [] os' [] bs' h = refl
owned_append i [] os' (b ∷ bs) bs' h = absurd (omega arith)
owned_append i (o ∷ os) os' [] bs' h = absurd (omega arith)
owned_append i (o ∷ os) os' (b ∷ bs) bs' h = go (eqb o i) (owned_append i os os' bs bs' (suc_inj h))
  where
    go : (t : Bool) → owned_by i (os ++ os') (bs ++ bs') ≡ owned_by i os bs ++ owned_by i os' bs'
        → elim t [ true ↦ b ∷ owned_by i (os ++ os') (bs ++ bs') | false ↦ owned_by i (os ++ os') (bs ++ bs') ]
        ≡ elim t [ true ↦ b ∷ owned_by i os bs | false ↦ owned_by i os bs ] ++ owned_by i os' bs'
    go true e = ap (λ (l : List ℕ). b ∷ l) e
    go false e = e

-- a run of one owner
pub run_mine : (i : ℕ) (s : Bytes) → owned_by i (replicate (length s) i) s ≡ s
unfolding owned_by
run_mine i [] = refl
run_mine i (b ∷ s) = mine_owned {o = i} refl b (replicate (length s) i) s ∙ ap (λ (l : List ℕ). b ∷ l) (run_mine i s)

pub run_other : (i j : ℕ) → (i ≡ j → ⊥) → (s : Bytes) → owned_by j (replicate (length s) i) s ≡ []
unfolding owned_by
run_other i j n [] = refl
run_other i j n (b ∷ s) = other_owned n b (replicate (length s) i) s ∙ run_other i j n s

-- how many
pub count_first : (i o : ℕ) (os : List ℕ) → owned_count i (o ∷ os) ≡ owns_one o i + owned_count i os
unfolding owned_count
count_first i o os = refl

pub owned_length : (i : ℕ) (os bs : List ℕ) → length os ≡ length bs → length (owned_by i os bs) ≡ owned_count i os
unfolding owned_by owned_count
owned_length i [] bs h = refl
owned_length i (o ∷ os) [] h = absurd (omega arith)
owned_length i (o ∷ os) (b ∷ bs) h = go (ℕ_discrete o i) (owned_length i os bs (suc_inj h))
  where
    go : Dec (o ≡ i) → length (owned_by i os bs) ≡ owned_count i os → length (owned_by i (o ∷ os) (b ∷ bs)) ≡ owns_one o i + owned_count i os
    go (yes e) f = rw (mine_owned e b os bs, mine_counted e) (omega arith)
    go (no n) f = rw (other_owned n b os bs, other_counted n) (omega arith)

pub kept_length : (i : ℕ) (os xs : List ℕ) → length os ≡ length xs → length (not_owned i os xs) + owned_count i os ≡ length os
unfolding not_owned owned_count
kept_length i [] xs h = refl
kept_length i (o ∷ os) [] h = absurd (omega arith)
kept_length i (o ∷ os) (x ∷ xs) h = go (ℕ_discrete o i) (kept_length i os xs (suc_inj h))
  where
    go : Dec (o ≡ i) → length (not_owned i os xs) + owned_count i os ≡ length os
        → length (not_owned i (o ∷ os) (x ∷ xs)) + (owns_one o i + owned_count i os) ≡ suc (length os)
    go (yes e) f = rw (mine_out e x os xs, mine_counted e) (omega arith)
    go (no n) f = rw (other_kept n x os xs, other_counted n) (omega arith)

pub owned_within : (i : ℕ) (os : List ℕ) → owned_count i os ≤ length os
owned_within i os = omega (arith, kept_length i os os refl)

-- what is kept keeps whatever all had, and the other streams; the stream itself is gone
pub kept_all : (P : ℕ → Type 0) (i : ℕ) (os xs : List ℕ) → ((k : ℕ) → k < length xs → P (get_or xs k 0)) → (k : ℕ) → k < length (not_owned i os xs) → P (get_or (not_owned i os xs) k 0)
unfolding not_owned
kept_all P i [] xs h = λ k l. absurd (omega arith)
kept_all P i (o ∷ os) [] h = λ k l. absurd (omega arith)
kept_all P i (o ∷ os) (x ∷ xs) h = go (ℕ_discrete o i) (kept_all P i os xs (λ k l. h (suc k) (omega arith)))
  where
    first : ((k : ℕ) → k < length (not_owned i os xs) → P (get_or (not_owned i os xs) k 0))
        → (k : ℕ) → k < length (x ∷ not_owned i os xs) → P (get_or (x ∷ not_owned i os xs) k 0)
    first f zero l = h 0 (omega arith)
    first f (suc k) l = f k (omega arith)

    go : Dec (o ≡ i) → ((k : ℕ) → k < length (not_owned i os xs) → P (get_or (not_owned i os xs) k 0))
        → (k : ℕ) → k < length (not_owned i (o ∷ os) (x ∷ xs)) → P (get_or (not_owned i (o ∷ os) (x ∷ xs)) k 0)
    go (yes e) f = rw (mine_out e x os xs) f
    go (no n) f = rw (other_kept n x os xs) (first f)

pub kept_gone : (i : ℕ) (os bs : List ℕ) → length os ≡ length bs → owned_by i (not_owned i os os) (not_owned i os bs) ≡ []
unfolding not_owned owned_by
kept_gone i [] bs h = refl
kept_gone i (o ∷ os) [] h = absurd (omega arith)
kept_gone i (o ∷ os) (b ∷ bs) h = go (ℕ_discrete o i) (kept_gone i os bs (suc_inj h))
  where
    go : Dec (o ≡ i) → owned_by i (not_owned i os os) (not_owned i os bs) ≡ [] → owned_by i (not_owned i (o ∷ os) (o ∷ os)) (not_owned i (o ∷ os) (b ∷ bs)) ≡ []
    go (yes e) f = rw (mine_out e o os os, mine_out e b os bs) f
    go (no n) f = rw (other_kept n o os os, other_kept n b os bs) (other_owned n b (not_owned i os os) (not_owned i os bs) ∙ f)

pub kept_others : (i j : ℕ) → (i ≡ j → ⊥) → (os bs : List ℕ) → length os ≡ length bs → owned_by j (not_owned i os os) (not_owned i os bs) ≡ owned_by j os bs
unfolding not_owned owned_by
kept_others i j d [] bs h = refl
kept_others i j d (o ∷ os) [] h = absurd (omega arith)
kept_others i j d (o ∷ os) (b ∷ bs) h = go (ℕ_discrete o i) (ℕ_discrete o j) (kept_others i j d os bs (suc_inj h))
  where
    go : Dec (o ≡ i) → Dec (o ≡ j) → owned_by j (not_owned i os os) (not_owned i os bs) ≡ owned_by j os bs
        → owned_by j (not_owned i (o ∷ os) (o ∷ os)) (not_owned i (o ∷ os) (b ∷ bs)) ≡ owned_by j (o ∷ os) (b ∷ bs)
    go (yes e) q f = rw (mine_out e o os os, mine_out e b os bs) (f ∙ sym (other_owned (λ m. d (sym e ∙ m)) b os bs))
    go (no n) (yes m) f = rw (other_kept n o os os, other_kept n b os bs) (mine_owned m b (not_owned i os os) (not_owned i os bs) ∙ ap (λ (l : List ℕ). b ∷ l) f ∙ sym (mine_owned m b os bs))
    go (no n) (no m) f = rw (other_kept n o os os, other_kept n b os bs) (other_owned m b (not_owned i os os) (not_owned i os bs) ∙ f ∙ sym (other_owned m b os bs))

-- a count is how many pass the test
pub owned_filtered : (i : ℕ) (os : List ℕ) → length (filter (λ (o : ℕ). eqb o i) os) ≡ owned_count i os
unfolding owned_count owns_one
owned_filtered i [] = refl
owned_filtered i (o ∷ os) = go (eqb o i) (owned_filtered i os)
  where
    go : (t : Bool) → length (filter (λ (o : ℕ). eqb o i) os) ≡ owned_count i os
        → ◌≡◌ {A = ℕ} (length (cond t (o ∷ filter (λ (o : ℕ). eqb o i) os) (filter (λ (o : ℕ). eqb o i) os))) (elim t [ true ↦ 1 | false ↦ 0 ] + owned_count i os)
    go true h = omega (arith, h)
    go false h = omega (arith, h)
